-- How parts of a call follow one another.
use Rattle.rex_node.proofs.Common.{◌≡◌, ℕ, ◌+◌, ◌<◌, Bool, true, false, List, [], ◌∷◌, ◌++◌, length, Ok, Err, Option, Some, None, refl, sym, ap, subst, ◌∙◌, append_assoc, length-append, arith, if◌then◌else◌, list_all-append, Declarations, Answer, Failed, chained, StateValue, Rec, Failure, down_node, After, append, logged, Value, CallHere, armed_with, failed_records, AreStated, is_stated, one_later, later, Leads, Fell, Draft, Going, On, Appends, NodeValue}
use Rattle.std.proofs.lemmas.List.{append-nil}
use Rattle.rex_report.specs.declared.effect.Effect.TheVariants as effect
use Rattle.rex_node.specs.Calls.{failed_many}

-- a failure after these appends and then those
later_both : (first second : List (List ℕ)) (f : Option Failure) → later (first ++ second) f ≡ later first (later second f)
later_both [] second f = refl
later_both (bytes ∷ first) second f = ap one_later (later_both first second f)

pub later_count : (first second : List (List ℕ)) {kept : Bool} → later first (Some (After (length second) kept)) ≡ Some (After (length (first ++ second)) kept)
later_count [] second = refl
later_count (bytes ∷ first) second {kept} = ap one_later (later_count first second)

-- the model's append goes well where it doesn't fail first
append_later : (me : ℕ) {r : Rec Value StateValue} (d : CallHere) (k : CallHere → CallHere) (f : Option Failure) → append (one_later f) me r (armed_with (one_later f) d) k ≡ k (armed_with f (logged r None d))
append_later me d k None = refl
append_later me d k (Some (After before kept)) = refl

-- each state in these appends and in those is spelled
pub stated_one : (service : Declarations) (bytes : List ℕ) → is_stated service bytes ≡ true → AreStated service (bytes ∷ [])
stated_one service bytes h = rw h refl

pub stated_both : (service : Declarations) (first second : List (List ℕ)) → AreStated service first → AreStated service second → AreStated service (first ++ second)
stated_both service first second h k = list_all-append (is_stated service) first second ∙ (rw (h, k) refl)

-- how many records there are after these appends and then those
pub both : (first second : List (List ℕ)) (n : ℕ) {m l : ℕ} → m ≡ length first + n → l ≡ length second + m → l ≡ length (first ++ second) + n
both first second n h k = let e = length-append first second in omega arith

both_failed : (kept : Bool) (first second : List (List ℕ)) (n : ℕ) {m l : ℕ} → m ≡ length first + n → l ≡ failed_many kept (length second) + m → l ≡ failed_many kept (length (first ++ second)) + n
both_failed true first second n h k = let e = length-append first second in omega arith
both_failed false first second n {m} {l} h k = both first second n h k

module _ {K : Type 0} {records : K → List (List ℕ)} {gives : K → List ℕ → Answer → K → Type 0} {faults : K → ℕ} {service : Declarations} where
  -- where nothing is appended
  pub leads_same : {whole rest : CallHere → CallHere} {old : K} {d e : CallHere} → length e.node.log ≡ length d.node.log → ((f : Option Failure) → whole (armed_with f d) ≡ rest (armed_with f e)) → Leads records gives faults service whole rest old old d e
  leads_same {old} same h = record { written = []; grown = sym (append-nil (records old)); appends = (refl, refl); counted = refl; stated = refl; many = omega (arith, same); comes = h }

  -- one part after the other
  pub leads_then : {whole middle rest : CallHere → CallHere} {a b c : K} {d e f : CallHere} → Leads records gives faults service whole middle a b d e → Leads records gives faults service middle rest b c e f → Leads records gives faults service whole rest a c d f
  leads_then {whole} {a} {b} {c} {d} {e} {f} h k = record {
    written = h.written ++ k.written;
    grown = k.grown ∙ ap (λ l. l ++ k.written) h.grown ∙ append_assoc (records a) h.written k.written;
    appends = (chained gives).more a b c h.written k.written (Ok tt) h.appends k.appends;
    counted = k.counted ∙ h.counted;
    stated = stated_both service h.written k.written h.stated k.stated;
    many = both h.written k.written _ h.many k.many;
    comes = λ failure. ap (λ g. whole (armed_with g d)) (later_both h.written k.written failure) ∙ h.comes (later k.written failure) ∙ k.comes failure;
  }

  pub leads_fell : {whole rest : CallHere → CallHere} {id : ℕ} {a b c : K} {d e f : CallHere} → Leads records gives faults service whole rest a b d e → Fell records gives faults service rest id b c e f → Fell records gives faults service whole id a c d f
  leads_fell {whole} {a} {b} {c} {d} {e} {f} h k = record {
    fails = record {
      written = h.written ++ k.fails.written;
      bytes = k.fails.bytes;
      kept = k.fails.kept;
      between = k.fails.between;
      grown = k.fails.grown ∙ ap (λ l. failed_records k.fails.kept l k.fails.bytes) (ap (λ l. l ++ k.fails.written) h.grown ∙ append_assoc (records a) h.written k.fails.written);
      appends = (chained gives).more a b k.fails.between h.written k.fails.written (Ok tt) h.appends k.fails.appends;
      fails = k.fails.fails;
      counted = subst (λ n. n < faults c) h.counted k.fails.counted;
      stated = rw (append_assoc h.written k.fails.written (k.fails.bytes ∷ [])) (stated_both service h.written _ h.stated k.fails.stated);
      many = both_failed _ h.written _ _ h.many k.fails.many;
      is = ap (λ g. whole (armed_with g d)) (sym (later_count h.written _)) ∙ h.comes (Some (After (length k.fails.written) k.fails.kept)) ∙ k.fails.is;
    };
    front = k.front;
    told = k.told;
    quiet = k.quiet;
  }

-- a record is appended
module _ {K : Type 0} (records : K → List (List ℕ)) (gives : K → List ℕ → Answer → K → Type 0) (faults : K → ℕ) (service : Declarations) where
  module _ {whole k : CallHere → CallHere} {me : ℕ} {r : Rec Value StateValue} {d : CallHere} (is : (f : Option Failure) → whole (armed_with f d) ≡ append f me r (armed_with f d) k) (old new : K) {bytes : List ℕ} (stated : is_stated service bytes ≡ true) where
    pub leads_append : gives old bytes (Ok tt) new → records new ≡ records old ++ bytes ∷ [] → faults new ≡ faults old → Leads records gives faults service whole k old new d (logged r None d)
    leads_append answer grown counted = record {
      written = bytes ∷ [];
      grown = grown;
      appends = (chained gives).one old new bytes (Ok tt) answer;
      counted = counted;
      stated = stated_one service bytes stated;
      many = omega arith;
      comes = λ f. is (one_later f) ∙ append_later me d k f;
    }

    -- or it fails
    pub fell_append : (kept : Bool) → gives old bytes (Err Failed) new → records new ≡ failed_records kept (records old) bytes → faults old < faults new
        → {after : CallHere} → after ≡ record { node = down_node (if kept then r ∷ d.node.log else d.node.log) None; sends = []; effects = d.effects ++ effect.Down me ∷ [] }
        → Fell records gives faults service whole me old new d after
    fell_append kept answer grown counted e = record {
      fails = record {
        written = [];
        bytes = bytes;
        kept = kept;
        between = old;
        grown = grown ∙ ap (λ l. failed_records kept l bytes) (sym (append-nil (records old)));
        appends = (refl, refl);
        fails = answer;
        counted = counted;
        stated = stated_one service bytes stated;
        many = ap (λ c. length c.node.log) e ∙ one_failed kept;
        is = is (Some (After 0 kept)) ∙ sym e;
      };
      front = d.effects;
      told = ap (λ c. c.effects) e;
      quiet = ap (λ c. c.sends) e;
    }
      where
        one_failed : (kept : Bool) → length (if kept then r ∷ d.node.log else d.node.log) ≡ failed_many kept 0 + length d.node.log
        one_failed true = omega arith
        one_failed false = omega arith

-- an append that went well is one record more
pub longer_by : {K : Type 0} (records : K → List (List ℕ)) (gives : K → List ℕ → Answer → K → Type 0) (faults : K → ℕ) (x y : NodeValue K) (before after : Draft) (bytes : List ℕ) {g : Going} {k : K}
    → Appends records faults gives x y before after bytes g → g ≡ On → k ≡ y.keeper → length (records x.keeper) < length (records k)
longer_by records gives faults x y before after bytes h on same =
    let kept = (subst (λ f. Appends records faults gives x y before after bytes f) on h).0 in
    omega (arith, ap (λ k. length (records k)) same, ap length kept.records, length-append (records x.keeper) (bytes ∷ []))
