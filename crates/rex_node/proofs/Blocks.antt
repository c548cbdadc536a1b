-- A block that an active node is handed leads where its events do, handed in one after the other.
use Rattle.rex_node.proofs.Common.{◌≡◌, ℕ, List, [], ◌∷◌, length, Option, Some, None, refl, ap, sym, subst, ◌∙◌, Declarations, IsService, Event, taken_turn, begin, Refusal, LeadsTo, if_up, ActingValue, NodeValue, IsResting, StaysResting, here_of, given, Value}
use Rattle.rex_record.proofs.Takes.{taken_keeps}
use Rattle.rex_cluster.specs.Takes as takes
use Rattle.rex_node.specs.Blocks.{take_each, given_all}
use Rattle.rex_node.proofs.Executing.{has, given_of_node, given_leads, given_stays}

-- what is executed after one event that is handed in
abbrev next_work : Declarations → ActingValue → Event → ActingValue
next_work service a e = given service a (taken_turn service a.recorder.state a.recorder.queue (length a.recorder.live) e)

-- the node with other work comes where the events do, and stays a node
pub record TakesEach {K : Type 0} (records : K → List (List ℕ)) (service : Declarations) (past : List Value) (x : NodeValue K) (es : List Event) (b : ActingValue) : Type 0 where
  pub leads : LeadsTo (take_each service es) (here_of records service past x) (here_of records service past (record x { acting = Some b }))
  pub stays : StaysResting records service past x (record x { acting = Some b })

module _ {K : Type 0} (records : K → List (List ℕ)) {service : Declarations} (past : List Value) (good : IsService service) (o : Option Refusal) where
  one_leads : {x : NodeValue K} {a : ActingValue} (e : Event) → IsResting records service past x → if_up x.up o ≡ None → Some a ≡ x.acting
      → here_of records service past (record x { acting = Some (next_work service a e) }) ≡ (takes.take_event service e (begin (here_of records service past x))).node
  one_leads {x} {a} e node due has_a =
      given_leads refl node o due has_a _ refl
      ∙ ap (λ t. (takes.taken t (begin (here_of records service past x))).node) (given_of_node {z = x} refl node o due has_a e)

  one_stays : {x : NodeValue K} {a : ActingValue} (e : Event) → IsResting records service past x → if_up x.up o ≡ None → Some a ≡ x.acting → StaysResting records service past x (record x { acting = Some (next_work service a e) })
  one_stays {x} {a} e node due has_a =
      given_stays refl node o due has_a _ refl
      (taken_keeps service _ e good (has {z = x} refl node o due has_a).recorder) good

  takes_each : (x : NodeValue K) {a : ActingValue} (es : List Event) → IsResting records service past x → if_up x.up o ≡ None → Some a ≡ x.acting → TakesEach records service past x es (given_all service a es)
  takes_each x [] node due has_a = record {
    leads = ap (λ w. here_of records service past (record x { acting = w })) has_a;
    stays = record { same = record { id = refl; nodes = refl; seed = refl; decoded = refl }; kept = subst (λ w. IsResting records service past (record x { acting = w })) (sym has_a) node };
  }
  takes_each x {a} (e ∷ es) node due has_a =
      let rest : TakesEach records service past (record x { acting = Some (next_work service a e) }) es (given_all service (next_work service a e) es) =
      takes_each (record x { acting = Some (next_work service a e) }) es (one_stays e node due has_a).kept due refl in
      record {
        leads = rest.leads ∙ ap (λ h. (take_each service es (begin h)).node) (one_leads e node due has_a);
        stays = record { same = record { id = rest.stays.same.id; nodes = rest.stays.same.nodes; seed = rest.stays.same.seed; decoded = rest.stays.same.decoded }; kept = rest.stays.kept };
      }

-- ---- the same where the parts are those of a node

module _ {K : Type 0} {records : K → List (List ℕ)} {service : Declarations} {past : List Value} {x z : NodeValue K} {a : ActingValue} (z_is : z ≡ x) (node : IsResting records service past x) (o : Option Refusal) (due : if_up x.up o ≡ None) (e : Some a ≡ z.acting) (good : IsService service) (es : List Event) {b : ActingValue} (b_is : b ≡ given_all service a es) where
  each : TakesEach records service past x es (given_all service a es)
  each = takes_each records past good o x es node due (e ∙ ap (λ n. n.acting) z_is)

  pub block_leads : LeadsTo (take_each service es) (here_of records service past x) (here_of records service past (record z { acting = Some b }))
  block_leads =
      ap (λ n. here_of records service past (record n { acting = Some b })) z_is
      ∙ ap (λ c. here_of records service past (record x { acting = Some c })) b_is
      ∙ each.leads

  pub block_stays : StaysResting records service past x (record z { acting = Some b })
  block_stays =
      subst (λ n. StaysResting records service past x (record n { acting = Some b })) (sym z_is)
      (subst (λ c. StaysResting records service past x (record x { acting = Some c })) (sym b_is) each.stays)
