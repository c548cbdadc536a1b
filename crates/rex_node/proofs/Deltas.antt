-- Known values that spell deltas, and a last state that is spelled: then nothing that records hold is bad.
use Rattle.rex_node.proofs.Common.{◌≡◌, ◌+◌, ◌<◌, ℕ, suc, Bool, true, false, List, [], ◌∷◌, ◌++◌, length, take, get_or, Result, Ok, Err, Option, Some, None, refl, sym, ap, subst, ◌∙◌, if◌then◌else◌, fold, is_some, nat_lt, IsOk, All, list_all, filter_map, cons_option, and_parts, list_all-append, is_piece, spells, values_fit, All-append, All-nil, All-cons, All-head, All-tail, take_more, Declarations, Delta, delta_in, state_in, SpellsDelta, Dropped, Transferred, Recovered, Saved, checkpoint_in, recovered, snapshot_of, Place, IsFound, bad_at, bad_in, first_bad, has_state, place_or, state_at}
use Rattle.rex_durable.specs.declared.records.Rec.{Rec}
use Rattle.rex_durable.specs.declared.records.Rec.TheVariants.{Promised, Accepted, Known, Checkpoint}
use Rattle.rex_durable.specs.Recovery.{known, known_above, offset}

-- ---- one value

good_delta : (q : Result Delta ℕ) → IsOk q → bad_at q ≡ None
good_delta (Ok d) h = refl
good_delta (Err at) h = absurd (cc)

delta_good : (q : Result Delta ℕ) → bad_at q ≡ None → IsOk q
delta_good (Ok d) e = refl
delta_good (Err at) e = absurd (cc)

-- a value that fits behind others spells one
pub last_spelled : (service : Declarations) (values : List (List ℕ)) (v : List ℕ) → values_fit service (values ++ v ∷ []) ≡ true → SpellsDelta v
last_spelled service values v fits =
    let all : list_all (spells service) (values ++ v ∷ []) ≡ true = (and_parts _ _ fits).0 in
    let last : list_all (spells service) (v ∷ []) ≡ true = (and_parts _ _ (sym (list_all-append (spells service) values (v ∷ [])) ∙ all)).1 in
    piece_is (delta_in v) (and_parts _ _ (and_parts _ _ last).0).1
  where
    piece_is : (q : Result Delta ℕ) → is_piece service q ≡ true → IsOk q
    piece_is (Ok d) h = refl
    piece_is (Err at) h = absurd cc

-- with one value more
pub one_more : (values : List (List ℕ)) {index : ℕ} {value : List ℕ} → index < length values → value ≡ get_or values index value → All SpellsDelta (take index values) → SpellsDelta value → All SpellsDelta (take (index + 1) values)
one_more values {index} {value} there is before h =
    subst (λ vs. All SpellsDelta vs) (sym (take_more values index value there))
    (All-append SpellsDelta (take index values) (get_or values index value ∷ []) before (All-cons SpellsDelta (get_or values index value) [] (subst SpellsDelta is h) (All-nil SpellsDelta)))

nowhere : (o : Option ℕ) → is_some o ≡ false → o ≡ None
nowhere None e = refl
nowhere (Some at) e = absurd (cc)

-- ---- where values and the last state are good

-- records without a state have no checkpoint
stateless : (rs : List Rec) → has_state rs ≡ false → filter_map checkpoint_in rs ≡ []
stateless [] e = refl
stateless (Promised b ∷ rs) e = stateless rs e
stateless (Accepted b i v ∷ rs) e = stateless rs e
stateless (Known i v ∷ rs) e = stateless rs e
stateless (Checkpoint k bytes ∷ rs) e = absurd (cc)
stateless (Dropped k ∷ rs) e = stateless rs e
stateless (Transferred k bytes ∷ rs) e = absurd (cc)

module _ (service : Declarations) where
  -- the last state of these, or else the one before them, is spelled
  abbrev IsSpelled : Option Saved → List Rec → Type 0
  IsSpelled before rs = bad_at (state_at service (snapshot_of (fold (λ b x. Some x) before (filter_map checkpoint_in rs)))) ≡ None

  -- a state is the last one, or one comes behind it
  state_good : (k : ℕ) (bytes : List ℕ) (rs : List Rec) → IsSpelled (Some (record { deltas = k; snapshot = bytes })) rs → (if has_state rs then None else bad_at (state_in service bytes)) ≡ None
  state_good k bytes rs h = by (has_state rs) refl
    where
      by : (t : Bool) → has_state rs ≡ t → ◌≡◌ {A = Option ℕ} (if t then None else bad_at (state_in service bytes)) None
      by true e = refl
      by false e = subst (λ ss. bad_at (state_at service (snapshot_of (fold (λ b x. Some x) (Some (record { deltas = k; snapshot = bytes })) ss))) ≡ None) (stateless rs e) h

  -- a value that isn't forgotten is one of those that are known
  value_good : (offset instance : ℕ) (value : List ℕ) (rs : List Rec) → All SpellsDelta (known_above offset (Known instance value ∷ rs)) → (bad_in service offset (Known instance value) rs ≡ None) × All SpellsDelta (known_above offset rs)
  value_good offset instance value rs h = by (nat_lt offset instance) h
    where
      by : (t : Bool) → All SpellsDelta (cons_option (if t then Some value else None) (known_above offset rs)) → (◌≡◌ {A = Option ℕ} (if t then bad_at (delta_in value) else None) None) × All SpellsDelta (known_above offset rs)
      by true all = (good_delta _ (All-head SpellsDelta value (known_above offset rs) all), All-tail SpellsDelta value (known_above offset rs) all)
      by false all = (refl, all)

  -- so none of the records is bad
  none_bad : (offset : ℕ) (rs : List Rec) (n : ℕ) (before : Option Saved) → All SpellsDelta (known_above offset rs) → IsSpelled before rs → first_bad service offset n rs ≡ None
  none_bad offset [] n before all last = refl
  none_bad offset (Promised b ∷ rs) n before all last = none_bad offset rs (suc n) before all last
  none_bad offset (Accepted b i v ∷ rs) n before all last = none_bad offset rs (suc n) before all last
  none_bad offset (Known i v ∷ rs) n before all last =
      let parts = value_good offset i v rs all in
      ap (λ o. place_or n o (first_bad service offset (suc n) rs)) parts.0 ∙ none_bad offset rs (suc n) before parts.1 last
  none_bad offset (Checkpoint k bytes ∷ rs) n before all last =
      ap (λ o. place_or n o (first_bad service offset (suc n) rs)) (state_good k bytes rs last) ∙ none_bad offset rs (suc n) _ all last
  none_bad offset (Dropped k ∷ rs) n before all last = none_bad offset rs (suc n) before all last
  none_bad offset (Transferred k bytes ∷ rs) n before all last =
      ap (λ o. place_or n o (first_bad service offset (suc n) rs)) (state_good k bytes rs last) ∙ none_bad offset rs (suc n) _ all last

  -- so it is of what they say of a node
  pub none_bad_in : {x : Recovered} (rs : List Rec) {last : Option ℕ} → x ≡ recovered rs → last ≡ bad_at (state_at service x.snapshot) → is_some last ≡ false → All SpellsDelta x.known → None ≡ first_bad service x.offset 1 rs
  none_bad_in rs {last} is said good deltas =
      let all : All SpellsDelta (known rs) = subst (λ y. All SpellsDelta y.known) is deltas in
      let spelled : IsSpelled None rs = subst (λ y. bad_at (state_at service y.snapshot) ≡ None) is (sym said ∙ nowhere last good) in
      sym (ap (λ y. first_bad service y.offset 1 rs) is ∙ none_bad _ rs 1 None all spelled)

  -- ---- where none is bad

  rest_good : (n : ℕ) (o : Option ℕ) {later : Option Place} → place_or n o later ≡ None → (o ≡ None) × (later ≡ None)
  rest_good n None e = (refl, e)
  rest_good n (Some at) e = absurd (cc)

  -- a value that isn't forgotten spells a delta
  value_known : (offset instance : ℕ) (value : List ℕ) (rs : List Rec) (t : Bool) → ◌≡◌ {A = Option ℕ} (if t then bad_at (delta_in value) else None) None → All SpellsDelta (known_above offset rs)
      → All SpellsDelta (cons_option (if t then Some value else None) (known_above offset rs))
  value_known offset instance value rs true here later = All-cons SpellsDelta value (known_above offset rs) (delta_good _ here) later
  value_known offset instance value rs false here later = later

  -- so each value that is known does
  values_good : (offset : ℕ) (rs : List Rec) (n : ℕ) → first_bad service offset n rs ≡ None → All SpellsDelta (known_above offset rs)
  values_good offset [] n good = All-nil SpellsDelta
  values_good offset (Promised b ∷ rs) n good = values_good offset rs (suc n) good
  values_good offset (Accepted b i v ∷ rs) n good = values_good offset rs (suc n) good
  values_good offset (Known i v ∷ rs) n good =
      let parts = rest_good n _ good in
      value_known offset i v rs _ parts.0 (values_good offset rs (suc n) parts.1)
  values_good offset (Checkpoint k bytes ∷ rs) n good =
      values_good offset rs (suc n) (rest_good n _ good).1
  values_good offset (Dropped k ∷ rs) n good = values_good offset rs (suc n) good
  values_good offset (Transferred k bytes ∷ rs) n good =
      values_good offset rs (suc n) (rest_good n _ good).1

  pub known_good : {kept : List (List ℕ)} {x : Recovered} → IsFound service kept x → All SpellsDelta x.known
  known_good f = subst (λ y. All SpellsDelta y.known) (sym f.read.is) (values_good _ f.read.rs 1 f.good)
