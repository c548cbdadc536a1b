-- What reading, appends and flushes make of a keeper's parts.
use Rattle.std.proofs.Common.{◌≡◌, ◌≢◌, inl, inr, ℕ, zero, suc, ◌+◌, ◌-◌, ◌<◌, ◌^◌, List, [], ◌∷◌, ◌++◌, length, take, drop, get_or, Result, Ok, Err, refl, sym, ◌∙◌, ap, subst, arith, append_assoc, length-append, take-append-drop, length-drop}
use Rattle.std.specs.List.{All}
use Rattle.std.proofs.lemmas.List.{append-nil, drop-append-le, drop_all, drop_at, flat_map_more, get_or_append_left, get_or_push, length-map, length_push, map_push, take-append-le, take_all}
use Rattle.std.proofs.lemmas.List.Elements.{All-append, All-nil, All-push, All-same}
use Rattle.rex_traits.specs.Keeping.{AppendsRecord}
use Rattle.rex_traits.specs.declared.keeper.KeepFault.{KeepFault}
use Rattle.rex_traits.specs.declared.keeper.KeepFault.TheVariants.{Failed, OutOfMemory}
use Rattle.rex_flush.specs.Flushing.{Flushes}
use Rattle.rex_wire.specs.Spelling.{value_bytes}
use Rattle.rex_group.specs.declared.TheConstants.{GROUP}
use Rattle.rex_group.specs.declared.reading.Place.{Place}
use Rattle.rex_group.specs.Groups.{HoldAll, IsShort, group}
use Rattle.rex_group.specs.Keeping.{GroupValue, IsGrouped, all_of, settled, value_of}
use Rattle.rex_group.specs.Places.{AreFound, IsWithin, part, record_of, records_at}
use Rattle.rex_group.proofs.Groups.{hold_push, length_bytes, length_bytes_long}
use Rattle.rex_group.proofs.Places.{map_same, place}

-- ---- all records are kept

-- the group that comes next adds nothing to what stands in the records before it
pub found_is : (below : List (List ℕ)) (next : List ℕ) (places : List Place) → AreFound below (length below) places → records_at (all_of below next) places ≡ records_at below places
found_is below next places f =
    map_same (λ p. part (record_of (all_of below next) p) p) (λ p. part (record_of below p) p) places (λ k d lt. ap (λ (xs : List ℕ). part xs (get_or places k d)) (get_or_append_left below (next ∷ []) [] (get_or places k d).index (f.known k d lt)))

pub found_grouped : (below : List (List ℕ)) (next : List ℕ) (places : List Place) (count : ℕ) → AreFound below (length below) places → next ≡ GROUP ∷ [] → count ≡ length places → IsGrouped below next places count
found_grouped below next places count f is all =
    let records = records_at (all_of below next) places in
    let long : length records ≡ length places = length-map places (λ p. part (record_of (all_of below next) p) p) in
    let none : drop count records ≡ [] = drop_all count records (omega arith) in
    record {
      few = omega arith;
      old = All-same (λ (p : Place). p.index < length below) (take count places) places (take_all count places (omega arith)) f.known;
      new = All-same (λ (p : Place). p.index ≡ length below) (drop count places) [] (drop_all count places (omega arith)) (All-nil (λ (p : Place). p.index ≡ length below));
      within = λ k d lt. subst (λ (xs : List ℕ). IsWithin xs (get_or places k d)) (sym (get_or_append_left below (next ∷ []) [] (get_or places k d).index (f.known k d lt))) (f.within k d lt);
      holds = subst (λ (xs : List (List ℕ)). HoldAll below xs) (sym (take_all count records (omega arith) ∙ found_is below next places f)) (subst (λ (xs : List (List ℕ)). HoldAll xs (records_at below places)) (take_all (length below) below (omega arith)) f.holds);
      short = All-same IsShort (drop count records) [] none (All-nil IsShort);
      group = is ∙ ap group (sym none);
      fits = omega (arith, ap length is);
    }

-- ---- a group that grows

-- a record behind which more stands, if it is the last
grows : (below : List (List ℕ)) (next more : List ℕ) (i : ℕ) → (tail : List ℕ) × (get_or (all_of below (next ++ more)) i [] ≡ get_or (all_of below next) i [] ++ tail)
grows [] next more zero = (more, refl)
grows [] next more (suc i) = ([], refl)
grows (b ∷ below) next more zero = ([], sym (append-nil b))
grows (b ∷ below) next more (suc i) = grows below next more i

part_more : (bytes tail : List ℕ) (p : Place) → IsWithin bytes p → part (bytes ++ tail) p ≡ part bytes p
part_more bytes tail p w =
    ap (λ (xs : List ℕ). take (p.end - p.start) xs) (drop-append-le p.start bytes tail (omega (arith, w.forward, w.end))) ∙ take-append-le (p.end - p.start) (drop p.start bytes) tail (omega (arith, w.forward, w.end, length-drop p.start bytes))

module _ (below : List (List ℕ)) (next more : List ℕ) (p : Place) (w : IsWithin (record_of (all_of below next) p) p) where
  grown_part : part (record_of (all_of below (next ++ more)) p) p ≡ part (record_of (all_of below next) p) p
  grown_part =
      let g = grows below next more p.index in
      ap (λ (xs : List ℕ). part xs p) g.1 ∙ part_more (record_of (all_of below next) p) g.0 p w

  grown_within : IsWithin (record_of (all_of below (next ++ more)) p) p
  grown_within =
      let g = grows below next more p.index in
      record { forward = w.forward; end = omega (arith, w.end, ap length g.1, length-append (record_of (all_of below next) p) g.0) }

module _ (below : List (List ℕ)) (next : List ℕ) (places : List Place) (kept : ℕ) (s : IsGrouped below next places kept) where
  abbrev all : List (List ℕ)
  all = all_of below next

  abbrev records : List (List ℕ)
  records = records_at all places

  records_long : length records ≡ length places
  records_long = length-map places (λ p. part (record_of all p) p)

  -- ---- what a place is in

  pub known : All (λ (p : Place). p.index < length all) places
  known = subst (λ (ps : List Place). All (λ (p : Place). p.index < length all) ps) (take-append-drop kept places)
      (All-append (λ (p : Place). p.index < length all) (take kept places) (drop kept places) (λ k d lt. omega (arith, s.old k d lt, length_push below next)) (λ k d lt. omega (arith, s.new k d lt, length_push below next)))

  -- ---- a flush

  -- with the group below all are found there
  pub all_found : AreFound all (length all) places
  all_found = record {
    known = known;
    within = s.within;
    holds = subst (λ (xs : List (List ℕ)). HoldAll xs records) (sym (take_all (length all) all (omega arith)))
        (subst (λ (xs : List (List ℕ)). HoldAll all xs) (take-append-drop kept records) (hold_push below (take kept records) (drop kept records) next s.holds (inl (record { short = s.short; is = s.group }))));
  }

  module _ (now : List (List ℕ)) (emptied : List ℕ) (count : ℕ) (is : now ≡ all) (alone : emptied ≡ GROUP ∷ []) (each : count ≡ length places) where
    found_now : AreFound now (length now) places
    found_now = subst (λ (xs : List (List ℕ)). AreFound xs (length xs) places) (sym is) all_found

    pub flushed_grouped : IsGrouped now emptied places count
    flushed_grouped = found_grouped now emptied places count found_now alone each

    flushed_is : records_at (all_of now emptied) places ≡ records
    flushed_is = found_is now emptied places found_now ∙ ap (λ (xs : List (List ℕ)). records_at xs places) is

    -- those that waited are kept
    pub flushed_settles : {K : Type 0} (keeper : K) → value_of keeper (records_at (all_of now emptied) places) count ≡ settled (value_of keeper records kept)
    flushed_settles {K} keeper =
        let long = records_long in
        ap (λ (xs : List (List ℕ)). value_of keeper xs count) flushed_is
        ∙ ap (λ (xs : List (List ℕ)). let v : GroupValue K = record { keeper = keeper; kept = xs; waits = drop count records } in v) (take_all count records (omega arith) ∙ sym (take-append-drop kept records))
        ∙ ap (λ (xs : List (List ℕ)). let v : GroupValue K = record { keeper = keeper; kept = take kept records ++ drop kept records; waits = xs } in v) (drop_all count records (omega arith))

  -- there is one that waits
  pub some_wait : kept ≢ length places → drop kept records ≢ []
  some_wait other none =
      let long : length (drop kept records) ≡ length {A = List ℕ} [] = ap length none in
      other (omega (arith, s.few, long, length-drop kept records, records_long))

  -- ---- an append

  module _ (bytes : List ℕ) where
    abbrev grown : List ℕ
    grown = next ++ value_bytes bytes

    abbrev last : Place
    last = place (length below) (length next + 4) (length next + 4 + length bytes)

    grown_long : length grown ≡ length next + 4 + length bytes
    grown_long = omega (arith, length-append next (value_bytes bytes), length-append (length_bytes bytes) bytes, length_bytes_long bytes)

    last_is : part (record_of (all_of below grown) last) last ≡ bytes
    last_is =
        let n : (length next + 4 + length bytes) - (length next + 4) ≡ length bytes = omega arith in
        let front : length (next ++ length_bytes bytes) ≡ length next + 4 = omega (arith, length-append next (length_bytes bytes), length_bytes_long bytes) in
        let behind : drop (length next + 4) grown ≡ bytes = ap (λ (xs : List ℕ). drop (length next + 4) xs) (sym (append_assoc next (length_bytes bytes) bytes)) ∙ drop_at (next ++ length_bytes bytes) bytes (length next + 4) front in
        ap (λ (xs : List ℕ). part xs last) (get_or_push below grown [] (length below) refl) ∙ ap (λ (k : ℕ). take k (drop (length next + 4) grown)) n ∙ ap (λ (xs : List ℕ). take (length bytes) xs) behind ∙ take_all (length bytes) bytes (omega arith)

    abbrev more : List (List ℕ)
    more = records_at (all_of below grown) (places ++ last ∷ [])

    -- what the places hold stays, and the new one holds the record
    more_is : more ≡ records ++ bytes ∷ []
    more_is =
        map_push (λ p. part (record_of (all_of below grown) p) p) places last
        ∙ ap (λ (xs : List (List ℕ)). xs ++ part (record_of (all_of below grown) last) last ∷ []) (map_same (λ p. part (record_of (all_of below grown) p) p) (λ p. part (record_of all p) p) places (λ k d lt. grown_part below next (value_bytes bytes) (get_or places k d) (s.within k d lt)))
        ∙ ap (λ (xs : List ℕ). records ++ xs ∷ []) last_is

    more_kept : take kept more ≡ take kept records
    more_kept = ap (λ (xs : List (List ℕ)). take kept xs) more_is ∙ take-append-le kept records (bytes ∷ []) (omega (arith, s.few, records_long))

    more_new : drop kept more ≡ drop kept records ++ bytes ∷ []
    more_new = ap (λ (xs : List (List ℕ)). drop kept xs) more_is ∙ drop-append-le kept records (bytes ∷ []) (omega (arith, s.few, records_long))

    -- so it waits behind the others
    pub more_waits : {K : Type 0} (keeper : K) → value_of keeper more kept ≡ record (value_of keeper records kept) { waits = drop kept records ++ bytes ∷ [] }
    more_waits {K} keeper =
        ap (λ (xs : List (List ℕ)). let v : GroupValue K = record { keeper = keeper; kept = xs; waits = drop kept more } in v) more_kept
        ∙ ap (λ (xs : List (List ℕ)). let v : GroupValue K = record { keeper = keeper; kept = take kept records; waits = xs } in v) more_new

    pub more_grouped : IsShort bytes → length next + 4 + length bytes < 2 ^ 32 → IsGrouped below grown (places ++ last ∷ []) kept
    more_grouped short room = record {
      few = omega (arith, s.few, length_push places last);
      old = All-same (λ (p : Place). p.index < length below) (take kept (places ++ last ∷ [])) (take kept places) (take-append-le kept places (last ∷ []) s.few) s.old;
      new = All-same (λ (p : Place). p.index ≡ length below) (drop kept (places ++ last ∷ [])) (drop kept places ++ last ∷ []) (drop-append-le kept places (last ∷ []) s.few) (All-push (λ (p : Place). p.index ≡ length below) (drop kept places) last s.new refl);
      within = All-push (λ (p : Place). IsWithin (record_of (all_of below grown) p) p) places last (λ k d lt. grown_within below next (value_bytes bytes) (get_or places k d) (s.within k d lt))
          (subst (λ (xs : List ℕ). IsWithin xs last) (sym (get_or_push below grown [] (length below) refl)) (record { forward = omega arith; end = omega (arith, grown_long) }));
      holds = subst (λ (xs : List (List ℕ)). HoldAll below xs) (sym more_kept) s.holds;
      short = All-same IsShort (drop kept more) (drop kept records ++ bytes ∷ []) more_new (All-push IsShort (drop kept records) bytes s.short short);
      group = ap (λ (xs : List ℕ). xs ++ value_bytes bytes) s.group ∙ flat_map_more value_bytes (GROUP ∷ []) (drop kept records) bytes ∙ ap group (sym more_new);
      fits = omega (arith, room, grown_long);
    }

-- ---- what an append below says by the count of records

module _ {T : Type 0} where
  pub not_appended : (r : Result T KeepFault) (before now : List (List ℕ)) (bytes : List ℕ) → AppendsRecord before now bytes r → length now ≡ length before → now ≡ before
  not_appended (Ok x) before now bytes h same = absurd (omega (arith, same, ap length h, length_push before bytes))
  not_appended (Err Failed) before now bytes (inl h) same = h
  not_appended (Err Failed) before now bytes (inr h) same = absurd (omega (arith, same, ap length h, length_push before bytes))
  not_appended (Err OutOfMemory) before now bytes h same = h

  pub appended : (r : Result T KeepFault) (before now : List (List ℕ)) (bytes : List ℕ) → AppendsRecord before now bytes r → length now ≢ length before → now ≡ before ++ bytes ∷ []
  appended (Ok x) before now bytes h other = h
  appended (Err Failed) before now bytes (inl h) other = absurd (other (ap length h))
  appended (Err Failed) before now bytes (inr h) other = h
  appended (Err OutOfMemory) before now bytes h other = absurd (other (ap length h))

  pub wait_on : (r : Result T KeepFault) (before now : List (List ℕ)) (bytes : List ℕ) (kept whole : List (List ℕ)) → AppendsRecord before now bytes r → length now ≡ length before → Flushes kept kept whole r
  wait_on (Ok x) before now bytes kept whole h same = absurd (omega (arith, same, ap length h, length_push before bytes))
  wait_on (Err Failed) before now bytes kept whole h same = inl refl
  wait_on (Err OutOfMemory) before now bytes kept whole h same = refl

  pub are_kept : (r : Result T KeepFault) (before now : List (List ℕ)) (bytes : List ℕ) (kept whole : List (List ℕ)) → AppendsRecord before now bytes r → length now ≢ length before → Flushes kept whole whole r
  are_kept (Ok x) before now bytes kept whole h other = refl
  are_kept (Err Failed) before now bytes kept whole h other = inr refl
  are_kept (Err OutOfMemory) before now bytes kept whole h other = absurd (other (ap length h))
