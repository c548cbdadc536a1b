-- Where the records stand that a keeper's hold.
use Rattle.std.proofs.Common.{◌≡◌, ℕ, ◌+◌, ◌-◌, ◌<◌, ◌≤◌, List, [], ◌∷◌, ◌++◌, length, take, drop, map, get_or, refl, sym, ◌∙◌, ap, subst, arith, take-append-drop, length-drop}
use Rattle.std.specs.Prelude.{slice_range}
use Rattle.std.specs.List.{All}
use Rattle.std.proofs.Math.Seq.{take-add}
use Rattle.std.proofs.lemmas.List.{drop-drop, flat_map_more, length-take-le, map-append, map_push, take_more}
use Rattle.std.proofs.lemmas.List.Elements.{All-append, All-head, All-push, All-tail}
use Rattle.rex_wire.specs.Spelling.{value_bytes}
use Rattle.rex_group.specs.declared.TheConstants.{GROUP}
use Rattle.rex_group.specs.declared.reading.Place.{Place}
use Rattle.rex_group.specs.Groups.{BeginsNone, BeginsWith, HoldAll, IsNoGroup, IsShort, group}
use Rattle.rex_group.specs.Places.{AreFound, AreMembers, AreParts, IsWithin, part, record_of, records_at}
use Rattle.rex_group.proofs.Groups.{hold_push, no_group}

abbrev pub place : ℕ → ℕ → ℕ → Place
place index start end = record { index = index; start = start; end = end }

-- ---- the records of a group

module _ (index : ℕ) (bytes : List ℕ) (end : ℕ) (places : List Place) (m : AreMembers index bytes end places) where
  -- one more follows
  pub members_more : (rest : List ℕ) (count : ℕ) → rest ≡ drop end bytes → BeginsWith rest count → AreMembers index bytes (end + 4 + count) (places ++ place index (end + 4) (end + 4 + count) ∷ [])
  members_more rest count is b =
      let last = place index (end + 4) (end + 4 + count) in
      let enough : end + 4 + count ≤ length bytes = omega (arith, m.few, b.within, ap length is, length-drop end bytes) in
      let n : (4 + count) - 4 ≡ (end + 4 + count) - (end + 4) = omega arith in
      let one : slice_range rest 4 (4 + count) ≡ part bytes last = ap (λ (k : ℕ). take k (drop 4 rest)) n ∙ ap (λ (xs : List ℕ). take ((end + 4 + count) - (end + 4)) xs) (ap (λ (xs : List ℕ). drop 4 xs) is ∙ drop-drop 4 end bytes) in
      let long : length (part bytes last) ≡ count = length-take-le ((end + 4 + count) - (end + 4)) (drop (end + 4) bytes) (omega (arith, enough, length-drop (end + 4) bytes)) ∙ omega arith in
      let far : end + 4 + count ≡ end + (4 + count) = omega arith in
      record {
        same = All-push (λ (p : Place). p.index ≡ index) places last m.same refl;
        within = All-push (IsWithin bytes) places last m.within (record { forward = omega arith; end = enough });
        few = enough;
        group = record {
          short = subst (λ (rs : List (List ℕ)). All IsShort rs) (sym (map_push (part bytes) places last)) (All-push IsShort (map (part bytes) places) (part bytes last) m.group.short (omega (arith, long, b.short)));
          is = ap (λ (k : ℕ). take k bytes) far ∙ take-add end (4 + count) bytes ∙ ap (λ (xs : List ℕ). xs ++ take (4 + count) (drop end bytes)) m.group.is
              ∙ ap (λ (xs : List ℕ). group (map (part bytes) places) ++ xs) (ap (λ (xs : List ℕ). take (4 + count) xs) (sym is) ∙ b.front ∙ ap value_bytes one)
              ∙ flat_map_more value_bytes (GROUP ∷ []) (map (part bytes) places) (part bytes last) ∙ ap group (sym (map_push (part bytes) places last));
        };
      }

  -- where no whole record follows there is no group
  pub members_ended : (rest : List ℕ) → end < length bytes → rest ≡ drop end bytes → BeginsNone rest → IsNoGroup bytes
  members_ended rest more is none =
      let some : 0 < length rest = omega (arith, more, ap length is, length-drop end bytes) in
      no_group (map (part bytes) places) bytes rest m.group.short (sym (take-append-drop end bytes) ∙ ap (λ (xs : List ℕ). xs ++ drop end bytes) m.group.is ∙ ap (λ (xs : List ℕ). group (map (part bytes) places) ++ xs) (sym is)) some none

-- ---- the records of a keeper

pub map_same : (f g : Place → List ℕ) (ps : List Place) → All (λ p. f p ≡ g p) ps → map f ps ≡ map g ps
map_same f g [] all = refl
map_same f g (p ∷ ps) all =
    ap (λ (x : List ℕ). x ∷ map f ps) (All-head (λ p. f p ≡ g p) p ps all) ∙ ap (λ (xs : List (List ℕ)). g p ∷ xs) (map_same f g ps (All-tail (λ p. f p ≡ g p) p ps all))

-- the next one holds what stands at these places
pub found_more : (all : List (List ℕ)) (count : ℕ) (bytes : List ℕ) (places more : List Place) → AreFound all count places → count < length all → bytes ≡ get_or all count [] → AreParts count bytes more → AreFound all (count + 1) (places ++ more)
found_more all count bytes places more f known is parts =
    let there : All (λ (p : Place). record_of all p ≡ bytes) more = λ k d lt. ap (λ (i : ℕ). get_or all i []) (parts.same k d lt) ∙ sym is in
    record {
      known = All-append (λ (p : Place). p.index < count + 1) places more (λ k d lt. omega (arith, f.known k d lt)) (λ k d lt. omega (arith, parts.same k d lt));
      within = All-append (λ (p : Place). IsWithin (record_of all p) p) places more f.within (λ k d lt. subst (λ (xs : List ℕ). IsWithin xs (get_or more k d)) (sym (there k d lt)) (parts.within k d lt));
      holds = subst (λ (xs : List (List ℕ)). HoldAll xs (records_at all (places ++ more))) (ap (λ (xs : List ℕ). take count all ++ xs ∷ []) is ∙ sym (take_more all count [] known))
          (subst (λ (xs : List (List ℕ)). HoldAll (take count all ++ bytes ∷ []) xs)
          (ap (λ (xs : List (List ℕ)). records_at all places ++ xs) (map_same (part bytes) (λ p. part (record_of all p) p) more (λ k d lt. ap (λ (xs : List ℕ). part xs (get_or more k d)) (sym (there k d lt)))) ∙ sym (map-append (λ p. part (record_of all p) p) places more))
          (hold_push (take count all) (records_at all places) (map (part bytes) more) bytes f.holds parts.holds));
    }
