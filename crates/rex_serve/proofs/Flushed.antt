-- A process after flushes of its keeper.
use Rattle.std.proofs.Common.{◌≡◌, ℕ, List, [], refl, ◌∙◌, ap}
use Rattle.rex_log.specs.Log.{log_of}
use Rattle.rex_process.specs.Process.{ProcessValue, IsSame, here}
use Rattle.rex_serve.specs.Answering.{IsFlushed}

module _ {K : Type 0} (records : K → List (List ℕ)) where
  pub flushed_none : (p : ProcessValue K) → IsFlushed records p p
  flushed_none p = record { only = refl; alike = refl }

  pub flushed_join : (p m q : ProcessValue K) → IsFlushed records p m → IsFlushed records m q → IsFlushed records p q
  flushed_join p m q h k = record {
    only = k.only ∙ ap (λ (r : ProcessValue K). record r { node = record r.node { keeper = q.node.keeper } }) h.only;
    alike = k.alike ∙ h.alike;
  }

  -- it is the same one
  pub flushed_same : (p q : ProcessValue K) → IsFlushed records p q → IsSame p q
  flushed_same p q h = record {
    service = ap (λ (r : ProcessValue K). r.service) h.only;
    id = ap (λ (r : ProcessValue K). r.node.id) h.only;
    nodes = ap (λ (r : ProcessValue K). r.node.nodes) h.only;
    seed = ap (λ (r : ProcessValue K). r.node.seed) h.only;
  }

  pub flushed_up : (p q : ProcessValue K) → IsFlushed records p q → q.node.up ≡ p.node.up
  flushed_up p q h = ap (λ (r : ProcessValue K). r.node.up) h.only

  -- it is the same node of the model
  pub flushed_here : (p q : ProcessValue K) → IsFlushed records p q → here records q ≡ here records p
  flushed_here p q h =
      ap (λ (r : ProcessValue K). here records r) h.only ∙ ap (λ (all : List (List ℕ)). record (here records p) { log = log_of p.service [] all }) h.alike
