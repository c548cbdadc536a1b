-- A node that leaves its role.
use Rattle.rex_node.proofs.Common.{◌≡◌, ℕ, ◌≤◌, List, Option, Some, None, refl, sym, ap, subst, ◌∙◌, arith, is_some, false≢true, Declarations, StateValue, start_of, run, AcceptorValue, ProposerValue, base, no_work, is_active, Follower, begin, work_left, replayed_left, with_role, Value, trace_of, Here, ActingValue, NodeValue, IsActing, IsUp, IsResting, here_of, role_of, work_of, ahead_of, ahead_left, leaving}
use Rattle.std.specs.Prelude.{take}

pub role_active : (service : Declarations) (values : List Value) (a : AcceptorValue) (o : Option ProposerValue) (w : Option ActingValue) → IsActing service values a o w → is_active (role_of a o (is_some w)) ≡ is_some w
role_active service values a None None h = refl
role_active service values a None (Some b) h = absurd h
role_active service values a (Some p) w h = refl

pub no_work_left : (w : Option ActingValue) → work_left (is_some w) (work_of w) ≡ no_work
no_work_left None = refl
no_work_left (Some a) = refl

pub replayed_from : (w : Option ActingValue) {based replayed : ℕ} → based ≤ replayed → based ≤ replayed_left (is_some w) based replayed
replayed_from None h = h
replayed_from (Some a) h = omega arith

pub replayed_to : (w : Option ActingValue) {based replayed known : ℕ} → based ≤ replayed → replayed ≤ known → replayed_left (is_some w) based replayed ≤ known
replayed_to None h k = k
replayed_to (Some a) h k = omega (arith, h, k)

pub state_left : (P : ℕ → StateValue → Type 0) (w : Option ActingValue) (ahead : Option StateValue) {start : StateValue} {based replayed : ℕ} → P based start → (w ≡ None → P replayed (ahead_of ahead start))
    → P (replayed_left (is_some w) based replayed) (ahead_of (ahead_left (is_some w) ahead) start)
state_left P None ahead h k = k refl
state_left P (Some a) ahead h k = h

module _ {K : Type 0} (records : K → List (List ℕ)) {service : Declarations} (past : List Value) {x : NodeValue K} (u : IsUp service x (here_of records service past x)) where
  -- the node is then a follower, as in the model
  pub leaves : here_of records service past (leaving x) ≡ (with_role Follower (begin (here_of records service past x))).node
  leaves =
      ap (λ b. record h { role = Follower; work = no_work; replayed = replayed_left (is_some x.acting) b x.replayed }) u.base
      ∙ ap (λ work. record h { role = Follower; work = work; replayed = replayed_left (is_some x.acting) (base h.log) x.replayed }) (sym (no_work_left x.acting))
      ∙ ap (λ t. record h { role = Follower; work = work_left t (work_of x.acting); replayed = replayed_left t (base h.log) x.replayed }) (sym (role_active service x.known x.acceptor _ x.acting u.acting))
    where
      h : Here
      h = here_of records service past x

  pub up_left : IsUp service (leaving x) (here_of records service past (leaving x))
  up_left = record {
    promised = u.promised;
    accepted = u.accepted;
    offset = u.offset;
    low = u.low;
    known = u.known;
    base = u.base;
    old_base = u.old_base;
    start = u.start;
    replayed = record {
      based = subst (λ b. b ≤ replayed_left (is_some x.acting) x.base x.replayed) u.base (replayed_from x.acting based);
      replayed = replayed_to x.acting based u.replayed.replayed;
    };
    ahead = λ _. state_left (λ n s. run service (start_of service) (trace_of (take n x.known)) ≡ Some s) x.acting x.ahead u.start u.ahead;
    caught_up = λ t. absurd (false≢true t);
    proposer = tt;
    acting = tt;
    stamped = tt;
    fits = u.fits;
    short = u.short;
    numbers = record { log = u.numbers.log; role = tt };
  }
    where
      based : x.base ≤ x.replayed
      based = subst (λ b. b ≤ x.replayed) (sym u.base) u.replayed.based

pub node_left : {K : Type 0} {records : K → List (List ℕ)} {service : Declarations} {past : List Value} {x : NodeValue K} → IsResting records service past x → IsResting records service past (leaving x)
node_left {records} {service} {past} {x} h = record { id = h.id; few = h.few; up = λ t. up_left records past (h.up t); reached = h.reached; decoded = h.decoded; rests = λ t. tt }
