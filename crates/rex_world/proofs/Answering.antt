-- A client that reads a variable at a node.
use Rattle.rex_world.proofs.Common.{◌≡◌, ℕ, zero, suc, ◌≤◌, ◌<◌, List, [], ◌∷◌, ◌++◌, length, get_or, refl, sym, ◌∙◌, ap, arith, length-set, slice_index_or, slice_set, Vec, drop-length, Declarations, Effect, ModelWorld, sent_from, Told, World, Member, here_at, messages_of, world_of, IsRunning, ComesTo, step_in, node_in}
use Rattle.std.proofs.lemmas.List.{append-nil}
use Rattle.rex_reads.specs.declared.seen.Read.{Read}
use Rattle.rex_reads.specs.Reads.{seen_after}
use Rattle.rex_schedule.specs.declared.scenario.ScheduleLine.TheVariants.{ReadVariable}
use Rattle.rex_cluster.specs.Reading.{read_at, read_effect}

-- a number that is there, whatever else there could be
pub number_there : (xs : List ℕ) (i d e : ℕ) → i < length xs → get_or xs i d ≡ get_or xs i e
number_there [] i d e l = absurd (omega (arith, l))
number_there (x ∷ xs) zero d e l = refl
number_there (x ∷ xs) (suc i) d e l = number_there xs i d e (omega (arith, l))

module _ {S : Type 0} {service : Declarations} {w : World S} (h : IsRunning service w) where
  -- numbers of clients don't matter for what is kept, as long as each has one
  pub seen_running : {seen : Vec ℕ} → length seen.items ≡ length w.seen.items → IsRunning service (record w { seen = seen })
  seen_running long = record {
    service_is = h.service_is;
    checked = h.checked;
    whole = h.whole;
    few = h.few;
    kept = record {
      world = record { many = h.kept.world.many; cluster = h.kept.world.cluster; nodes = h.kept.world.nodes };
      acting = h.kept.acting;
      numbers = record { nodes = h.kept.numbers.nodes; messages = h.kept.numbers.messages };
      handed = h.kept.handed;
    };
    agreed = h.agreed;
    members = h.members;
    within = h.within;
    spelled = h.spelled;
    told = h.told;
    requests = h.requests;
    flushed = h.flushed;
    handed = h.handed;
    clients = long ∙ h.clients;
  }

  -- a read comes to its row of the model
  pub read_came : (m : ℕ) {client : ℕ} (variable : ℕ) → client ≤ 256 → (x : Member) → node_in service w m ≡ here_at service w.agreed x → {now next : ℕ} → now ≡ slice_index_or w.seen.items client now → {answer : Read} → answer ≡ read_at service (here_at service w.agreed x) variable now → next ≡ seen_after now answer
      → {seen : Vec ℕ} → seen.items ≡ slice_set w.seen.items client next → {told told2 : Told} {e : Effect} → e ≡ read_effect m client variable answer → told2.effects.items ≡ told.effects.items ++ e ∷ [] → told2.sent.items ≡ told.sent.items
      → ComesTo service w (record w { seen = seen }) told told2 (step_in service w (ReadVariable m client variable))
  read_came m {client} variable few x x_is {now} {next} now_is {answer} answer_is next_is {seen} saw {told} e_is effects sent =
      let was : now ≡ get_or w.seen.items client 0 = now_is ∙ number_there _ client now 0 (let many = h.clients in omega (arith, few, many)) in
      let is : answer ≡ read_at service (node_in service w m) variable (get_or w.seen.items client 0) =
      answer_is ∙ ap (λ y. read_at service y variable now) (sym x_is) ∙ ap (read_at service (node_in service w m) variable) was in
      record {
        did = record {
          world = ap (λ ss. let v : ModelWorld = record (world_of service w) { seen = ss } in v)
              (saw ∙ ap (slice_set w.seen.items client) (next_is ∙ ap (λ k. seen_after k answer) was ∙ ap (seen_after (get_or w.seen.items client 0)) is));
          effects = effects ∙ ap (λ f. told.effects.items ++ f ∷ []) (e_is ∙ ap (read_effect m client variable) is);
          sent = sent ∙ sym (append-nil told.sent.items) ∙ ap (λ ms. told.sent.items ++ sent_from (suc (length (messages_of w.agreed w.net))) ms) (sym (drop-length (messages_of w.agreed w.net)));
        };
        goes = record {
          running = seen_running (ap length saw ∙ length-set w.seen.items client next);
          same = record { nodes = refl; requests = refl; seed = refl };
          done = refl;
        };
      }
