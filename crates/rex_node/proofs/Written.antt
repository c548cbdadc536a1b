-- Calls and results that are the same in their parts.
use Rattle.rex_node.proofs.Common.{◌≡◌, ℕ, Bool, List, Result, Ok, Err, Option, ap, ◌∙◌, OnErr, StateValue, Effect, Rec, Failure, Message, Role, Work, Value, CallHere}

pub on_err : {T E P : Type 0} (r : Result T E) → P → OnErr r P
on_err (Ok x) p = tt
on_err (Err e) p = p

-- calls with the same parts are the same
pub call_is : {log log' : List (Rec Value StateValue)} {up : Bool} {armed : Option Failure} {role : Role Value} {work work' : Work} {replayed replayed' : ℕ} {sends sends' : List (Message Value)} {effects effects' : List Effect}
    → log ≡ log' → work ≡ work' → replayed ≡ replayed' → sends ≡ sends' → effects ≡ effects'
    → (let d : CallHere = record { node = record { log = log; up = up; armed = armed; role = role; work = work; replayed = replayed }; sends = sends; effects = effects } in d)
    ≡ (let e : CallHere = record { node = record { log = log'; up = up; armed = armed; role = role; work = work'; replayed = replayed' }; sends = sends'; effects = effects' } in e)
call_is {log} {log'} {up} {armed} {role} {work} {work'} {replayed} {replayed'} {sends} {sends'} {effects} a b c d e =
    ap (λ l. let z : CallHere = record { node = record { log = l; up = up; armed = armed; role = role; work = work; replayed = replayed }; sends = sends; effects = effects } in z) a
    ∙ ap (λ w. let z : CallHere = record { node = record { log = log'; up = up; armed = armed; role = role; work = w; replayed = replayed }; sends = sends; effects = effects } in z) b
    ∙ ap (λ n. let z : CallHere = record { node = record { log = log'; up = up; armed = armed; role = role; work = work'; replayed = n }; sends = sends; effects = effects } in z) c
    ∙ ap (λ ms. let z : CallHere = record { node = record { log = log'; up = up; armed = armed; role = role; work = work'; replayed = replayed' }; sends = ms; effects = effects } in z) d
    ∙ ap (λ es. let z : CallHere = record { node = record { log = log'; up = up; armed = armed; role = role; work = work'; replayed = replayed' }; sends = sends'; effects = es } in z) e
