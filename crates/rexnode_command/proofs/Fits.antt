-- The parts of a command are in their ranges.
use Rattle.std.proofs.Common.{◌≡◌, ℕ, ◌≤◌, ◌&&◌, Bool, true, false, cond, List, length, Option, Some, None, refl, true≢false, sym, inl, inr, ◌∙◌, nat_le}
use Rattle.std.specs.Prelude.{IfSome, codes}
use Rattle.std.proofs.lemmas.Bool.Decides.{leb_tells}
use Rattle.clap.specs.Words.{Row, Text, first_of}
use Rattle.clap.specs.Simple.{matches_of}
use Rattle.rex_command.specs.Reading.{number_in}
use Rattle.rex_command.proofs.Fits.{Between, between, where_tested}
use Rattle.rex_schedule.specs.Counts.{is_node_count}
use Rattle.rex_identity.specs.declared.identity.TheConstants.{CLUSTER_BYTES}
use Rattle.rexnode_command.specs.Application.{node_app}
use Rattle.rexnode_command.specs.Command.{CommandValue, fitting, is_fitting}
use Rattle.rexnode_command.specs.Reading.{command_in, command_with, is_command_line}
use Rattle.rexnode_command.specs.Laws.{CommandsFit, Fits}

either : {A : Type 0} (P : A → Type 0) (b : Bool) (x : Option A) → IfSome x P → IfSome (cond b x None) P
either P true x h = h
either P false x h = tt

pub both_pass : (a b : Bool) → (a && b) ≡ true → (a ≡ true) × (b ≡ true)
both_pass true b e = (refl, e)
both_pass false b e = absurd (true≢false (sym e))

pub at_most : (a b : ℕ) → nat_le a b ≡ true → a ≤ b
at_most a b e = elim (leb_tells a b) [ inl h ↦ h.1 | inr h ↦ absurd (true≢false (sym e ∙ h.0)) ]

fitting_fits : (c : CommandValue) → 1 ≤ c.id → c.seed ≤ 4294967295 → IfSome (fitting c) Fits
fitting_fits c above below = where_tested Fits (is_fitting c) c (λ e.
    let last = both_pass _ _ e in
    let first = both_pass (nat_le c.id c.nodes) (is_node_count c.nodes) last.0 in
    record {
      member = record { first = above; last = at_most c.id c.nodes first.0; counted = first.1 };
      seeded = below;
      named = at_most (length c.cluster) CLUSTER_BYTES last.1;
    })

parts_fit : (id nodes : Option ℕ) (service journal : Option Text) (seed : Option ℕ) (cluster : Option Text)
    → IfSome id (Between 1 9) → IfSome seed (Between 0 4294967295) → IfSome (command_with id nodes service journal seed cluster) Fits
parts_fit None nodes service journal seed cluster h k = tt
parts_fit (Some i) None service journal seed cluster h k = tt
parts_fit (Some i) (Some n) None journal seed cluster h k = tt
parts_fit (Some i) (Some n) (Some s) None seed cluster h k = tt
parts_fit (Some i) (Some n) (Some s) (Some j) None cluster h k = tt
parts_fit (Some i) (Some n) (Some s) (Some j) (Some d) None h k = tt
parts_fit (Some i) (Some n) (Some s) (Some j) (Some d) (Some c) h k =
    fitting_fits (record { id = i; nodes = n; service = s; journal = j; seed = d; cluster = c }) h.0 k.1

rows_fit : (rows : List Row) → IfSome (command_in rows) Fits
rows_fit rows =
    parts_fit (number_in 1 9 (codes "id") rows) (number_in 1 9 (codes "nodes") rows) (first_of (codes "service") rows) (first_of (codes "journal") rows)
    (number_in 0 4294967295 (codes "seed") rows) (first_of (codes "cluster") rows) (between 1 9 (codes "id") rows) (between 0 4294967295 (codes "seed") rows)

pub commands_fit : CommandsFit
commands_fit words = either Fits (is_command_line words) _ (rows_fit (matches_of node_app words))
