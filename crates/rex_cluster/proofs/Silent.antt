-- A value none of whose events replies to a client.
use Rattle.std.proofs.Common.{◌≡◌, ℕ, inl, inr, Bool, true, false, List, [], ◌∷◌, refl, ap, ℤ}
use Rattle.std.proofs.lemmas.Bool.{eqb-true, false≢true}
use Rattle.rex_event.specs.declared.delta.Delta.{Delta}
use Rattle.rex_event.specs.declared.event.Event.{Event}
use Rattle.rex_delta.specs.Reading.{delta_in}
use Rattle.rex_gate.specs.Numbers.{replies_to, is_reply_to}
use Rattle.rex_cluster.specs.Values.{Value, events_of, read_delta}
use Rattle.std.specs.Prelude.{Result, Ok, Err}
use Rattle.rex_event.specs.declared.event.Kind.{Kind}
use Rattle.rex_event.specs.declared.event.Kind.TheVariants.{Reply}
use Rattle.rex_delta.specs.Replying.{RepliesToNone}

-- a kind that is told to reply to the client does
told : {client : ℕ} (kind : Kind) → is_reply_to client kind ≡ true → (value : ℤ) × (kind ≡ Reply client value)
told {client} (Reply c value) t = (value, ap (λ n. Reply n value) (eqb-true c client t))
told _ t = absurd (false≢true t)

not_told : {client : ℕ} {kind : Kind} (b : Bool) → is_reply_to client kind ≡ b → ((value : ℤ) → kind ≡ Reply client value → ⊥) → b ≡ false
not_told {client} {kind} true t h = let r = told kind t in absurd (h r.0 r.1)
not_told false t h = refl

events_silent : {client : ℕ} (es : List Event) → RepliesToNone client es → replies_to client es ≡ false
events_silent [] h = refl
events_silent {client} (e ∷ es) h =
    rw (not_told _ refl (h e (inl refl))) (events_silent es (λ f has. h f (inr has)))

pub value_silent : {client : ℕ} (value : Value) → ((d : Delta) → delta_in value ≡ Ok d → RepliesToNone client d.events) → replies_to client (events_of value) ≡ false
value_silent {client} value h = by (delta_in value) refl
  where
    by : (r : Result Delta ℕ) → delta_in value ≡ r → replies_to client (read_delta r).events ≡ false
    by (Ok d) is = events_silent d.events (h d is)
    by (Err at) is = refl
