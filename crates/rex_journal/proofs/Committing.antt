-- What opening a gate makes of the records, however it ends.
use Rattle.std.proofs.Common.{◌≡◌, ℕ, ◌+◌, ◌<◌, ◌^◌, Bool, IsTrue, List, [], ◌∷◌, ◌++◌, length, take, Result, Ok, Err, ◌∙◌, ap, subst, arith}
use Rattle.std.specs.Prelude.{OnOk, IfErr}
use Rattle.std.proofs.lemmas.List.Elements.{All-push}
use Rattle.rex_disk.specs.Calls.{Call}
use Rattle.rex_disk.specs.Stops.{Only, overwritten}
use Rattle.rex_journal.specs.Journal.{entry}
use Rattle.rex_journal.specs.Giving.{Opened, OpensGate}
use Rattle.rex_journal.specs.Keeping.{IsFront, IsSettled, LeavesFront}
use Rattle.rex_journal.specs.declared.file.GateLeft.{GateLeft}
use Rattle.rex_journal.specs.declared.file.GateLeft.TheVariants.{Closed, Unknown, Open}
use Rattle.rex_journal.proofs.Steps.{next_place, opened, staged}

module _ {D : Type 0} (meets : D → Bool) (seen : D → List ℕ) (may_leave : D → List ℕ → Type 0) (old mid new : D) (records : List (List ℕ)) (one_more spelled : List ℕ) (gate : ℕ)
    (s : IsSettled meets seen may_leave old records gate) (is : spelled ≡ entry one_more) (few : length one_more < 2 ^ 32)
    (written : IsTrue (meets old) → seen mid ≡ overwritten (gate + 1) spelled (seen old)) (model : meets mid ≡ meets old) (model_new : meets new ≡ meets mid) where
  there : gate + length spelled ≡ gate + length (entry one_more)
  there = ap (λ (l : List ℕ). gate + length l) is

  -- what is read once the gate was written
  front_open : (IsTrue (meets mid) → seen new ≡ overwritten gate (1 ∷ []) (seen mid)) → IsFront meets seen new (records ++ one_more ∷ []) (gate + length spelled)
  front_open opens = record {
    place = there ∙ next_place records gate s.place one_more;
    short = All-push (λ r. length r < 2 ^ 32) _ _ s.short few;
    front = λ met.
        let still = subst IsTrue model_new met in
        let before = subst IsTrue model still in
        let is_staged = written before ∙ ap (λ l. overwritten (gate + 1) l (seen old)) is ∙ staged records gate s.place one_more (seen old) (s.front before) in
        ap (λ n. take (n + 1) (seen new)) there ∙ ap (λ f. take (gate + length (entry one_more) + 1) f) (opens still) ∙ opened records gate s.place one_more _ _ is_staged;
  }

  pub commit_settled : (r : Result (Unit {0}) GateLeft) → length (seen mid) ≡ Rattle.std.specs.Prelude.max (length (seen old)) (gate + 1 + length spelled) → (IsTrue (meets mid) → Opened (seen new ≡ overwritten gate (1 ∷ []) (seen mid)) r) → (IsTrue (meets mid) → OnOk r (Only (seen new) (may_leave new))) → OnOk r (length (seen new) ≡ length (seen mid))
      → OnOk r (IsSettled meets seen may_leave new (records ++ one_more ∷ []) (gate + length spelled))
  commit_settled (Ok x) long opens durable same =
      let f = front_open opens in
      record {
        within = omega (arith, s.within, long, same);
        place = f.place;
        short = f.short;
        front = f.front;
        durable = λ met. durable (subst IsTrue model_new met);
      }
  commit_settled (Err left) long opens durable same = tt

  pub commit_front : (gives : D → Call → Bool → D → Type 0) (r : Result (Unit {0}) GateLeft) → (IsTrue (meets mid) → Opened (seen new ≡ overwritten gate (1 ∷ []) (seen mid)) r) → OpensGate gives gate mid new r
      → IfErr r (λ left. LeavesFront meets seen new records one_more gate (gate + length spelled) left)
  commit_front gives (Ok x) opens calls = tt
  commit_front gives (Err Closed) opens calls = absurd calls
  commit_front gives (Err Unknown) opens calls = tt
  commit_front gives (Err Open) opens calls = front_open opens
