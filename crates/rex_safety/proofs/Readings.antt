-- What clients that read are told is agreed and reported, and the number of deltas that they are told never falls.
use Rattle.std.proofs.Common.{◌≡◌, ℕ, suc, ◌≤◌, ◌⊎◌, List, [], ◌∷◌, ◌++◌, length, get_or, take, drop, refl, sym, ◌∙◌, ap, subst, inl, inr, arith, le_trans, le_refl, length-append}
use Rattle.std.specs.Prelude.{ℤ}
use Rattle.std.proofs.lemmas.Bool.{false≢true}
use Rattle.std.proofs.lemmas.List.{get_or-set_same}
use Rattle.rex_syntax.specs.declared.request.Request.{Request}
use Rattle.rex_syntax.specs.declared.service.Declarations.{Declarations}
use Rattle.rex_report.specs.declared.effect.Effect.{Effect}
use Rattle.rex_report.specs.declared.effect.Effect.TheVariants as effect
use Rattle.rex_reads.specs.declared.seen.Read.{Read as Answer}
use Rattle.rex_reads.specs.declared.seen.Read.TheVariants as answer
use Rattle.rex_reads.specs.Reads.{seen_after}
use Rattle.rex_schedule.specs.declared.scenario.ScheduleLine.{ScheduleLine}
use Rattle.rex_schedule.specs.declared.scenario.ScheduleLine.TheVariants as line
use Rattle.rex_cluster.specs.Quorum.{IsNode}
use Rattle.rex_cluster.specs.Node.{Message, is_active}
use Rattle.rex_cluster.specs.Values.{Value, trace_of, state_after, service_of}
use Rattle.rex_cluster.specs.Lanes.{Here}
use Rattle.rex_cluster.specs.World.{World, node_at, beginning, sent_from, row}
use Rattle.rex_cluster.specs.Reading.{value_in, read_at, read_effect}
use Rattle.rex_cluster.specs.Agreed.{world_after, known_at, agreed, trace_at}
use Rattle.rex_cluster.specs.Invariant.{Begins}
use Rattle.rex_safety.specs.Kept.{IsWorld}
use Rattle.rex_cluster.specs.Releases.{IsAmong}
use Rattle.rex_cluster.specs.Takes.{Doing}
use Rattle.rex_cluster.specs.Takes.Doing.{Does}
use Rattle.rex_safety.specs.Seeing.{IsTold, ReportsWhatIsTold, TellsAgreed}
use Rattle.rex_safety.specs.Doings.{world_after_doings}
use Rattle.rex_cluster.proofs.Fronts.{take_front}
use Rattle.rex_safety.proofs.Nodes.{none_down}
use Rattle.rex_safety.proofs.Worlds.{node_or_not}
use Rattle.rex_safety.proofs.Agreeing.{known_begins, after_both}
use Rattle.rex_safety.proofs.Doings.{after_both as doings_both}
use Rattle.rex_safety.proofs.Seen.{ToldBy, told_by, told_enough, lines_rise, doings_rise}

-- ---- what a value belongs to

module _ (service : Declarations) (seed n : ℕ) (w : World) (ok : IsWorld n (service_of service seed) w) where
  module _ (m client variable : ℕ) (value : ℤ) (number : ℕ) (t : IsTold service w m client variable value number) where
    told : ToldBy (node_at w.nodes m).up (node_at w.nodes m).replayed (value_in (state_after service (trace_of (take (node_at w.nodes m).replayed (known_at w m)))) variable) (get_or w.seen client 0) value number
    told = told_by (node_at w.nodes m).up (is_active (node_at w.nodes m).role) (node_at w.nodes m).replayed (value_in (state_after service (trace_of (take (node_at w.nodes m).replayed (known_at w m)))) variable) (get_or w.seen client 0) value number t.answer

    node : IsNode n m
    node = go (node_or_not n m)
      where
        go : IsNode n m ⊎ (IsNode n m → ⊥) → IsNode n m
        go (inl h) = h
        go (inr none) = absurd (false≢true (sym (ap (λ (x : Here). x.up) (none_down w.nodes m (λ l. none (subst (λ k. IsNode k m) ok.many l)))) ∙ told.is_up))

    low : (node_at w.nodes m).replayed ≤ length (known_at w m)
    low = (ok.nodes m node).replayed

    begins : Begins (known_at w m) (agreed w)
    begins = known_begins n (service_of service seed) w ok m node

    pub number_agreed : number ≤ length (agreed w)
    number_agreed =
        let long = ap length begins.1 in
        omega (arith, told.number_is, low, length-append (known_at w m) begins.0, long)

    fronts : take (node_at w.nodes m).replayed (known_at w m) ≡ take (node_at w.nodes m).replayed (agreed w)
    fronts = sym (take_front (known_at w m) begins.0 (node_at w.nodes m).replayed low) ∙ ap (take (node_at w.nodes m).replayed) begins.1

    pub value_agreed : value ≡ value_in (state_after service (trace_at w number)) variable
    value_agreed =
        told.value_is
        ∙ (ap (λ (vs : List Value). value_in (state_after service (trace_of vs)) variable) fronts
        ∙ ap (λ k. value_in (state_after service (trace_at w k)) variable) (sym told.number_is))

  pub tells_agreed : TellsAgreed service n w
  tells_agreed = record { agreed = number_agreed; value = value_agreed }

-- ---- numbers never fall

module _ (service : Declarations) (requests : List Request) (seed n : ℕ) where
  reads_see : (w : World) → length w.seen ≡ 257 → (m client variable : ℕ) (value : ℤ) (number : ℕ) → client ≤ 256 → IsTold service w m client variable value number
      → number ≤ get_or (row service requests seed n w (line.ReadVariable m client variable)).world.seen client 0
  reads_see w long m client variable value number l t =
      subst (λ k. number ≤ k) (sym (get_or-set_same w.seen client (seen_after (get_or w.seen client 0) (read_at service (node_at w.nodes m) variable (get_or w.seen client 0))) 0 (omega (arith, l, long))))
      (subst (λ (a : Answer). number ≤ seen_after (get_or w.seen client 0) a) (sym t.answer) (le_refl number))

  pub never_back : (lines more : List ScheduleLine) (m client variable : ℕ) (value : ℤ) (number : ℕ) → client ≤ 256 → IsTold service (world_after service requests seed n lines) m client variable value number
      → (m_later variable_later : ℕ) (value_later : ℤ) (number_later : ℕ) → IsTold service (world_after service requests seed n (lines ++ line.ReadVariable m client variable ∷ more)) m_later client variable_later value_later number_later
      → number ≤ number_later
  never_back lines more m client variable value number l t m_later variable_later value_later number_later u =
      le_trans (reads_see w ((lines_rise service requests seed n (beginning n) lines).long) m client variable value number l t)
      (le_trans ((lines_rise service requests seed n (row service requests seed n w (line.ReadVariable m client variable)).world more).at client)
      (subst (λ (v : World). get_or v.seen client 0 ≤ number_later) (after_both service requests seed n (beginning n) lines (line.ReadVariable m client variable ∷ more))
      (told_enough service later m_later client variable_later value_later number_later u)))
    where
      w : World
      w = world_after service requests seed n lines

      later : World
      later = world_after service requests seed n (lines ++ line.ReadVariable m client variable ∷ more)

  -- events that nodes are handed may be among the lines
  pub doings_never_back : (doings more : List Doing) (m client variable : ℕ) (value : ℤ) (number : ℕ) → client ≤ 256 → IsTold service (world_after_doings service requests seed n doings) m client variable value number
      → (m_later variable_later : ℕ) (value_later : ℤ) (number_later : ℕ) → IsTold service (world_after_doings service requests seed n (doings ++ Does (line.ReadVariable m client variable) ∷ more)) m_later client variable_later value_later number_later
      → number ≤ number_later
  doings_never_back doings more m client variable value number l t m_later variable_later value_later number_later u =
      le_trans (reads_see w ((doings_rise service requests seed n (beginning n) doings).long) m client variable value number l t)
      (le_trans ((doings_rise service requests seed n (row service requests seed n w (line.ReadVariable m client variable)).world more).at client)
      (subst (λ (v : World). get_or v.seen client 0 ≤ number_later) (doings_both service requests seed n (beginning n) doings (Does (line.ReadVariable m client variable) ∷ more))
      (told_enough service later m_later client variable_later value_later number_later u)))
    where
      w : World
      w = world_after_doings service requests seed n doings

      later : World
      later = world_after_doings service requests seed n (doings ++ Does (line.ReadVariable m client variable) ∷ more)

-- ---- what is reported

nothing_sent : (number : ℕ) (xs : List (Message Value)) → sent_from number (drop (length xs) xs) ≡ []
nothing_sent number [] = refl
nothing_sent number (x ∷ xs) = nothing_sent number xs

-- only a value is reported as one
a_value : (m client variable : ℕ) (value : ℤ) (number : ℕ) (a : Answer) → read_effect m client variable a ≡ effect.Read client variable value number → a ≡ answer.Value value number
a_value m client variable value number answer.Down e = absurd (cc)
a_value m client variable value number answer.Primary e = absurd (cc)
a_value m client variable value number (answer.Behind have seen) e = absurd (cc)
a_value m client variable value number (answer.Value v k) e = cc

one_among : (e : Effect) (x : Effect) → IsAmong e (x ∷ []) → x ≡ e
one_among e x (inl h) = h
one_among e x (inr h) = absurd h

pub reports : (service : Declarations) (n : ℕ) (w : World) → ReportsWhatIsTold service n w
reports service n w = record {
  told = λ requests seed m client variable value number t. inl (ap (read_effect m client variable) t.answer);
  only = λ requests seed m client variable value number h.
      let a : Answer = read_at service (node_at w.nodes m) variable (get_or w.seen client 0) in
      record {
        answer = a_value m client variable value number a
            (one_among (effect.Read client variable value number) (read_effect m client variable a)
            (subst (λ (es : List Effect). IsAmong (effect.Read client variable value number) (read_effect m client variable a ∷ es)) (nothing_sent (suc (length w.messages)) w.messages) h));
      };
}
