-- Messages that are read beside a list of values, and beside a longer one.
use Rattle.rex_world.proofs.Common.{◌≡◌, ℕ, ◌≤◌, true, List, [], ◌∷◌, length, Result, Ok, Err, Some, refl, sym, ap, subst, ◌∙◌, arith, length-append, All, list_all, All-nil, All-cons, All-head, All-tail, Declarations, start_of, run, Said, Says, Begins, Value, spells, trace_of, message_in, IsTold, TellsIn, TellsRightly, message_of, messages_of, read_message}
use Rattle.rex_msg.specs.declared.message.Content.TheVariants as says
use Rattle.rex_log.specs.Messages as told
use Rattle.rex_log.proofs.Beside.{first_grown}
use Rattle.rex_log.proofs.Pasts.{message_longer}
use Rattle.rex_cluster.proofs.Grow.{begins_trans}

module _ {A : Type 0} where
  pub begins_on : (xs : List A) {ys zs : List A} → Begins xs ys → Begins ys zs → Begins xs zs
  begins_on xs a b = begins_trans xs _ _ a b

module _ (service : Declarations) (past values : List Value) (fits : list_all (spells service) values ≡ true) (front : Begins past values) where
  told_grown : (c : Says) → IsTold service past c → IsTold service values c
  told_grown (says.Prepare b i) h = tt
  told_grown (says.Promise b ps) h = tt
  told_grown (says.Accept b i v) h = tt
  told_grown (says.Accepted b i) h = tt
  told_grown (says.Chosen i v) h = tt
  told_grown (says.Nack b p) h = tt
  told_grown (says.Ask i) h = tt
  told_grown (says.Snapshot k bytes) h = record {
    state = h.state;
    spelled = h.spelled;
    version = h.version;
    leads = subst (λ vs. run service (start_of service) (trace_of vs) ≡ Some h.state) (sym (first_grown service past values fits front h.there)) h.leads;
    there = let l = h.there in omega (arith, l, longer_past);
    short = h.short;
  }
    where
      longer_past : length past ≤ length values
      longer_past = let e = ap length front.1 in let f = length-append past front.0 in omega (arith, e, f)

  has_past : (c : Says) → IsTold service past c → told.IsTold past c
  has_past (says.Prepare b i) h = tt
  has_past (says.Promise b ps) h = tt
  has_past (says.Accept b i v) h = tt
  has_past (says.Accepted b i) h = tt
  has_past (says.Chosen i v) h = tt
  has_past (says.Nack b p) h = tt
  has_past (says.Ask i) h = tt
  has_past (says.Snapshot k bytes) h = h.there

  read_grown : (r : Result Said ℕ) → TellsIn service past r → TellsIn service values r × (read_message values r ≡ read_message past r)
  read_grown (Ok m) h = (told_grown m.content h, subst (λ vs. message_in vs m ≡ message_in past m) front.1 (message_longer past front.0 m (has_past m.content h)))
  read_grown (Err at) h = (tt, refl)

  pub messages_grown : (net : List (List ℕ)) → All (TellsRightly service past) net → All (TellsRightly service values) net × (messages_of values net ≡ messages_of past net)
  messages_grown [] h = (All-nil (TellsRightly service values), refl)
  messages_grown (bytes ∷ net) h =
      let one = read_grown _ (All-head (TellsRightly service past) bytes net h).tells in
      let others = messages_grown net (All-tail (TellsRightly service past) bytes net h) in (
        All-cons (TellsRightly service values) bytes net (record { tells = one.0 }) others.0,
        ap (λ m. m ∷ messages_of values net) one.1 ∙ ap (λ ms. message_of past bytes ∷ ms) others.1,
      )
