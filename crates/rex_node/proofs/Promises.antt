-- What a node does on a Prepare and on an Accept.
use Rattle.rex_node.proofs.Common.{◌≡◌, ℕ, ◌<◌, Bool, true, false, List, [], ◌∷◌, Option, None, refl, sym, ap, subst, ◌∙◌, arith, le_refl, map, nat_le, nat_lt, is_some, OnErr, lt-ltb, le-ltb, lt-leb, le-leb, IsInstance, IsValue, from_instance, proposal_for, AcceptorValue, accepting, answer_to_accept, is_of_ballot, promising, Declarations, KeptRec, HasSpelling, record_bytes, Answer, promise, accepted, offset, known, from_on, Promised, Accepted, Failure, Promise, Voted, Nack, answer, answer_base, append, follow, followed, has_last, logged, on_accept, on_prepare, send, Value, CallHere, Begins, AreRising, accepted_rising, Draft, Going, On, Down, armed_with, Appends, IsStuck, Sends, Tells, TellsBase, answering, so_far, log_of, proposal_in, NodeValue, IsUp, IsResting, here_of, leaving, role_of, Rec, StateValue, Message, Ends}
use Rattle.std.specs.Prelude.{◌≤◌, not, cond, Result, Ok, Err}
use Rattle.rex_msg.specs.declared.message.Content.TheVariants as sent
use Rattle.rex_ballot.specs.Ballot.{IsBallot}
use Rattle.rex_paxos.specs.declared.answers.Asked.TheVariants as asked
use Rattle.rex_durable.specs.declared.records.Rec.TheVariants as kept
use Rattle.rex_report.specs.declared.effect.Effect.TheVariants as effect
use Rattle.rex_cluster.specs.Calls.{promised}
use Rattle.rex_node.proofs.Appended.{ballot_fits, instance_fits, logged_of, logged_promised, logged_accepted, IsLogged}
use Rattle.rex_node.proofs.Bases.{tells_base}
use Rattle.rex_log.proofs.Accepting.{from_kept, last_kept, rising_zero}
use Rattle.rex_node.proofs.Following.{EndsWell, ends_same}
use Rattle.rex_node.proofs.Recorded.{sends_to, recorded_stuck, recorded_down, follows_to, follows_on}

-- what holds anyway holds of an error
pub on_err_anyway : {T E : Type 0} (r : Result T E) (P : Type 0) → P → OnErr r P
on_err_anyway (Ok x) P p = tt
on_err_anyway (Err e) P p = p

-- what an append came to
pub appends_at : {K : Type 0} (records : K → List (List ℕ)) (gives : K → List ℕ → Answer → K → Type 0) (faults : K → ℕ) (x y : NodeValue K) (before mid : Draft) (r : KeptRec) {s : KeptRec} {g h : Going} → r ≡ s → g ≡ h
    → Appends records faults gives x y before mid (record_bytes r) g → Appends records faults gives x y before mid (record_bytes s) h
appends_at records gives faults x y before mid r {s} {g} a b k =
    subst (λ z. Appends records faults gives x y before mid (record_bytes s) z) b (subst (λ z. Appends records faults gives x y before mid (record_bytes z) g) a k)

module _ {K : Type 0} {records : K → List (List ℕ)} (gives : K → List ℕ → Answer → K → Type 0) (faults : K → ℕ) {service : Declarations} {past : List Value} {x : NodeValue K} (node : IsResting records service past x) (up : x.up ≡ true) (before : Draft) (from b : ℕ) where
  abbrev log : List (Rec Value StateValue)
  log = log_of service past (records x.keeper)

  abbrev begun : CallHere
  begun = so_far records service past x before

  abbrev armed : Option Failure → CallHere
  armed f = armed_with f begun

  u : IsUp service x (here_of records service past x)
  u = node.up up

  -- nothing was appended, and the node is as it was
  abbrev StaysWell : Draft → (CallHere → CallHere) → Type 0
  StaysWell after call = EndsWell records gives faults service past x x before after call

  -- so it is where the call comes to the draft
  stays : {call : CallHere → CallHere} (after : Draft) → ((f : Option Failure) → call (armed f) ≡ armed_with f (so_far records service past x after)) → StaysWell after call
  stays after h = ends_same x before after refl node up h

  -- ---- a Prepare

  module _ (first : ℕ) where
    abbrev prepare : CallHere → CallHere
    prepare = on_prepare x.id from b first

    abbrev raises : Option Failure → CallHere
    raises f = append f x.id (Promised b) (armed f) (λ e. promised x.id from b first (follow x.id (effect.Promised x.id b ∷ []) e))

    -- what it does that holds the values from the instance on
    abbrev held : Option Failure → CallHere
    held f = cond (nat_lt (promise log) b) (raises f) (promised x.id from b first (armed f))

    -- a ballot that is no less than the promise is looked into further
    no_less : x.acceptor.promised ≤ b → (f : Option Failure) → prepare (armed f) ≡ cond (nat_le first (offset log)) (answer_base x.id from (armed f)) (held f)
    no_less more f =
        ap (λ t. cond t (send (armed f) (answer x.id from (Nack b (promise log)))) (cond (nat_le first (offset log)) (answer_base x.id from (armed f)) (held f))) (le-ltb b (promise log) (omega (arith, more, u.promised)))

    -- and so is an instance after the offset
    holds : x.acceptor.promised ≤ b → x.offset < first → (f : Option Failure) → prepare (armed f) ≡ held f
    holds more late f =
        no_less more f
        ∙ ap (λ t. cond t (answer_base x.id from (armed f)) (held f)) (lt-leb first (offset log) (subst (λ o. o < first) u.offset late))

    -- one from an instance on whose value isn't held is told the state at the base
    pub prepare_old : Begins (known (here_of records service past x).log) past → {after : Draft} → x.acceptor.promised ≤ b → first ≤ x.offset → TellsBase service x from before after → StaysWell after prepare
    prepare_old begins {after} more old t =
        stays after
        (λ f. no_less more f
        ∙ ap (λ t. cond t (answer_base x.id from (armed f)) (held f)) (le-leb first (offset log) (subst (λ o. first ≤ o) u.offset old))
        ∙ ap (armed_with f) (sym (tells_base records u begins t)))

    -- the same promise is made again
    pub prepare_again : {after : Draft} → b ≡ x.acceptor.promised → x.offset < first → Sends before after (answering x.id from (sent.Promise b (from_instance first x.acceptor.accepted))) → StaysWell after prepare
    prepare_again {after} same late s =
        stays after
        (λ f. holds (omega (arith, same)) late f
        ∙ ap (λ t. cond t (raises f) (promised x.id from b first (armed f))) (le-ltb (promise log) b (omega (arith, same, u.promised)))
        ∙ ap (λ ps. send (armed f) (answer x.id from (Promise b ps))) (sym (from_kept first _ ∙ ap (from_on first) u.accepted))
        ∙ ap (armed_with f) (sym (sends_to records service past x before after from _ s)))

    -- a greater one is promised
    module _ (ballot : IsBallot b) (late : x.offset < first) (above : x.acceptor.promised < b) (y : NodeValue K) (mid : Draft) where
      spelled : HasSpelling (kept.Promised b)
      spelled = record { in_range = ballot }

      raises_is : (f : Option Failure) → prepare (armed f) ≡ raises f
      raises_is f =
          holds (omega (arith, above)) late f
          ∙ ap (λ t. cond t (raises f) (promised x.id from b first (armed f))) (lt-ltb (promise log) b (omega (arith, above, u.promised)))

      pub raise_down : Appends records faults gives x y before mid (record_bytes (kept.Promised b)) Down
          → Ends records gives faults service past prepare x y before mid Down
      raise_down h = recorded_down gives faults y before mid node up spelled tt refl refl raises_is h

      pub raise_stuck : Appends records faults gives x y before mid (record_bytes (kept.Promised b)) On → {z : NodeValue K} → z.keeper ≡ y.keeper → z.base ≡ y.base → IsStuck records gives faults service past prepare x z before
      raise_stuck h {z} keeper based = recorded_stuck gives faults y before mid node up spelled tt refl refl raises_is h (λ d. refl) keeper based

      pub raise_on : Appends records faults gives x y before mid (record_bytes (kept.Promised b)) On → {z : NodeValue K} {told after : Draft} → z ≡ record (leaving y) { acceptor = promising y.acceptor b }
          → Tells mid told (effect.Promised y.id b ∷ followed y.id (role_of y.acceptor y.proposer (is_some y.acting)))
          → Sends told after (answering z.id from (sent.Promise b (from_instance first z.acceptor.accepted))) → EndsWell records gives faults service past x z before after prepare
      raise_on h {z} {told} {after} z_is t s =
          follows_on gives faults y before mid node up spelled tt refl refl h logged_here (le_refl _) (λ n l. refl) z_here raises_is after (λ f. refl)
          (sends_to records service past z told after from _ s
          ∙ ap (λ e. send e (answer z.id from (Promise b (map proposal_in (from_instance first z.acceptor.accepted)))))
          (follows_to gives faults y before mid node up spelled tt refl refl h logged_here (le_refl _) (λ n l. refl) z_here (λ i. effect.Promised i b) t)
          ∙ ap (λ n. follows (answer n.id from (Promise b (map proposal_in (from_instance first n.acceptor.accepted))))) z_here
          ∙ ap (λ ps. follows (answer x.id from (Promise b ps))) (from_kept first _ ∙ ap (from_on first) u.accepted))
        where
          follows : List (Message Value) → CallHere
          follows = send (follow x.id (effect.Promised x.id b ∷ []) (logged (Promised b) None begun))

          z_here : z ≡ record (leaving x) { keeper = y.keeper; acceptor = promising x.acceptor b; known = x.known }
          z_here = z_is ∙ ap (λ n. record (leaving n) { acceptor = promising n.acceptor b }) h.0.parts

          logged_here : IsLogged service (record x { acceptor = promising x.acceptor b }) (Promised b ∷ log)
          logged_here = logged_promised (logged_of records service past x u) (ballot_fits ballot)

  -- ---- an Accept

  -- a proposal that is no less than the promise, and accepted before or not
  asked_parts : (less has fresh : Bool) (p : ℕ) → cond less (asked.Nack p) (asked.Accept (not has)) ≡ asked.Accept fresh → (less ≡ false) × (has ≡ not fresh)
  asked_parts true has fresh p e = absurd (cc)
  asked_parts false true true p e = absurd (let n : asked.Accept false ≡ asked.Accept true = e in cc)
  asked_parts false true false p e = (refl, refl)
  asked_parts false false true p e = (refl, refl)
  asked_parts false false false p e = absurd (let n : asked.Accept true ≡ asked.Accept false = e in cc)

  module _ (i : ℕ) (v : Value) where
    abbrev accept : CallHere → CallHere
    accept = on_accept x.id from b i v

    -- then the call is this
    abbrev accepts : Option Failure → CallHere
    accepts f = append f x.id (Accepted b i v) (armed f) (λ e. send (follow x.id (effect.Accepted x.id b i ∷ []) e) (answer x.id from (Voted b i)))

    -- unless the instance's value isn't held
    abbrev goes : Option Failure → CallHere
    goes f = cond (has_last b i (accepted log)) (send (armed f) (answer x.id from (Voted b i))) (accepts f)

    module _ {fresh : Bool} (answer_is : answer_to_accept x.acceptor b i ≡ asked.Accept fresh) where
      after_promise : (f : Option Failure) → accept (armed f) ≡ cond (nat_le i (offset log)) (answer_base x.id from (armed f)) (goes f)
      after_promise f =
          ap (λ t. cond t (send (armed f) (answer x.id from (Nack b (promise log)))) (cond (nat_le i (offset log)) (answer_base x.id from (armed f)) (goes f)))
          (ap (nat_lt b) (sym u.promised) ∙ (asked_parts _ _ fresh _ answer_is).0)

      accept_is : x.offset < i → (f : Option Failure) → accept (armed f) ≡ cond (not fresh) (send (armed f) (answer x.id from (Voted b i))) (accepts f)
      accept_is late f =
          after_promise f
          ∙ ap (λ t. cond t (answer_base x.id from (armed f)) (goes f)) (lt-leb i (offset log) (subst (λ o. o < i) u.offset late))
          ∙ ap (λ t. cond t (send (armed f) (answer x.id from (Voted b i))) (accepts f))
          (ap (has_last b i) (sym u.accepted)
          ∙ last_kept b i 0 x.acceptor.accepted (rising_zero x.acceptor.accepted (subst (λ ps. AreRising 0 ps) (sym u.accepted) (accepted_rising log u.numbers.log.instances)))
          ∙ (asked_parts (nat_lt b x.acceptor.promised) (is_of_ballot b (proposal_for i x.acceptor.accepted)) fresh x.acceptor.promised answer_is).1)

    -- one whose value isn't held is told the state at the base
    pub accept_old : Begins (known (here_of records service past x).log) past → {fresh : Bool} {after : Draft} → answer_to_accept x.acceptor b i ≡ asked.Accept fresh → i ≤ x.offset → TellsBase service x from before after → StaysWell after accept
    accept_old begins {fresh} {after} e old t =
        stays after
        (λ f. after_promise e f
        ∙ ap (λ t. cond t (answer_base x.id from (armed f)) (goes f)) (le-leb i (offset log) (subst (λ o. i ≤ o) u.offset old))
        ∙ ap (armed_with f) (sym (tells_base records u begins t)))

    -- the last acceptance for the instance is at the ballot
    pub accept_again : {after : Draft} → answer_to_accept x.acceptor b i ≡ asked.Accept false → x.offset < i → Sends before after (answering x.id from (sent.Accepted b i)) → StaysWell after accept
    accept_again {after} e late s = stays after (λ f. accept_is e late f ∙ ap (armed_with f) (sym (sends_to records service past x before after from _ s)))

    -- or it is accepted
    module _ (ballot : IsBallot b) (there : IsInstance i) (short : IsValue v) (late : x.offset < i) (e : answer_to_accept x.acceptor b i ≡ asked.Accept true) (y : NodeValue K) (mid : Draft) where
      valued : HasSpelling (kept.Accepted b i v)
      valued = record { in_range = (ballot, there, short) }

      -- as it accepts the value
      abbrev with_value : AcceptorValue → AcceptorValue
      with_value a = accepting a (record { instance = i; ballot = b; value = v })

      pub accept_down : Appends records faults gives x y before mid (record_bytes (kept.Accepted b i v)) Down
          → Ends records gives faults service past accept x y before mid Down
      accept_down h = recorded_down gives faults y before mid node up valued tt refl refl (accept_is e late) h

      pub accept_stuck : Appends records faults gives x y before mid (record_bytes (kept.Accepted b i v)) On → {z : NodeValue K} → z.keeper ≡ y.keeper → z.base ≡ y.base → IsStuck records gives faults service past accept x z before
      accept_stuck h {z} keeper based = recorded_stuck gives faults y before mid node up valued tt refl refl (accept_is e late) h (λ d. refl) keeper based

      pub accept_on : Appends records faults gives x y before mid (record_bytes (kept.Accepted b i v)) On → {z : NodeValue K} {told after : Draft} → z ≡ record (leaving y) { acceptor = with_value y.acceptor }
          → Tells mid told (effect.Accepted y.id b i ∷ followed y.id (role_of y.acceptor y.proposer (is_some y.acting)))
          → Sends told after (answering z.id from (sent.Accepted b i)) → EndsWell records gives faults service past x z before after accept
      accept_on h {z} {told} {after} z_is t s =
          follows_on gives faults y before mid node up valued tt refl refl h logged_here (le_refl _) (λ n l. refl) z_here (accept_is e late) after (λ f. refl)
          (sends_to records service past z told after from _ s
          ∙ ap (λ n. send n (answer z.id from (Voted b i)))
          (follows_to gives faults y before mid node up valued tt refl refl h logged_here (le_refl _) (λ n l. refl) z_here (λ j. effect.Accepted j b i) t)
          ∙ ap (λ j. send (follow x.id (effect.Accepted x.id b i ∷ []) (logged (Accepted b i v) None begun)) (answer j from (Voted b i))) (ap (λ n. n.id) z_here))
        where
          z_here : z ≡ record (leaving x) { keeper = y.keeper; acceptor = with_value x.acceptor; known = x.known }
          z_here = z_is ∙ ap (λ n. record (leaving n) { acceptor = with_value n.acceptor }) h.0.parts

          logged_here : IsLogged service (record x { acceptor = with_value x.acceptor }) (Accepted b i v ∷ log)
          logged_here = logged_accepted (logged_of records service past x u) (ballot_fits ballot) (instance_fits there) short (subst (λ o. o < i) u.offset late)
