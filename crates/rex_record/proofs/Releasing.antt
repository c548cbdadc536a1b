-- The replies among events that are gone through, one after another.
use Rattle.std.proofs.Common.{◌≡◌, ℕ, suc, ◌+◌, ◌<◌, List, [], ◌∷◌, ◌++◌, length, get_or, take, drop, drop-cons, refl, sym, ap, ◌∙◌, arith, append_assoc}
use Rattle.std.proofs.lemmas.List.{take_at}
use Rattle.rex_event.specs.declared.event.Event.{Event}
use Rattle.rex_state.specs.declared.lane.Entry.{Entry}
use Rattle.rex_state.specs.Machine.{clients_after}
use Rattle.rex_state.proofs.Keep.{clients_long}
use Rattle.rex_gate.specs.Noted.{noted}
use Rattle.rex_record.specs.declared.recorder.Release.{Release}
use Rattle.rex_record.specs.Value.{release_of, releases}

one_more : (n : ℕ) → suc n ≡ n + 1
one_more n = omega arith

-- the rest from a place on begins with the event there
pub rest_is : (es : List Event) (i : ℕ) (e : Event) → i < length es → e ≡ get_or es i e → drop i es ≡ e ∷ drop (i + 1) es
rest_is es i e there is =
    drop-cons es i e there ∙ ap (λ (x : Event). x ∷ drop (suc i) es) (sym is) ∙ ap (λ (n : ℕ). e ∷ drop n es) (one_more i)

-- with the reply of one more event, and the entries after it, the replies that are left end the same ones
pub releases_on : (clients after : List Entry) (es : List Event) (i : ℕ) (e : Event) (released more all : List Release) → i < length es → e ≡ get_or es i e → after ≡ clients_after e.kind clients
    → more ≡ released ++ release_of after e.kind → released ++ releases clients (drop i es) ≡ all → more ++ releases after (drop (i + 1) es) ≡ all
releases_on clients after es i e released more all there is after_is more_is h =
    ap (λ (rs : List Release). rs ++ releases after (drop (i + 1) es)) more_is
    ∙ append_assoc released (release_of after e.kind) (releases after (drop (i + 1) es))
    ∙ ap (λ (cs : List Entry). released ++ (release_of cs e.kind ++ releases cs (drop (i + 1) es))) after_is
    ∙ ap (λ (rest : List Event). released ++ releases clients rest) (sym (rest_is es i e there is))
    ∙ h

-- the entries after one more event are changed by the events that are left to the same ones
pub noted_on : (clients after : List Entry) (es : List Event) (i : ℕ) (e : Event) (all : List Entry) → i < length es → e ≡ get_or es i e → after ≡ clients_after e.kind clients
    → noted clients (drop i es) ≡ all → noted after (drop (i + 1) es) ≡ all
noted_on clients after es i e all there is after_is h =
    ap (λ (cs : List Entry). noted cs (drop (i + 1) es)) after_is ∙ ap (noted clients) (sym (rest_is es i e there is)) ∙ h

length_noted : (cs : List Entry) (es : List Event) → length (noted cs es) ≡ length cs
length_noted cs [] = refl
length_noted cs (e ∷ es) = length_noted (clients_after e.kind cs) es ∙ clients_long e.kind cs

-- noting events in place leaves all entries noted
pub noted_over : (was : List Entry) (es : List Event) (now all : List Entry) (n : ℕ) → now ≡ noted was es → was ≡ all → n ≡ length all
    → take n (now ++ drop (length now) all) ≡ noted was es
noted_over was es now all n is same long =
    take_at now (drop (length now) all) n (ap length is ∙ length_noted was es ∙ ap length same ∙ sym long) ∙ is
