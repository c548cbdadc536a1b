-- What decoding answers.
use Rattle.std.proofs.Common.{ℕ, List, Result, Ok, Err, sym, ap, subst, ◌∙◌}
use Rattle.std.specs.Prelude.{IfOk}
use Rattle.rex_syntax.specs.declared.service.Declarations.{Declarations}
use Rattle.rex_syntax.specs.Service.{IsService}
use Rattle.rex_syntax.specs.Check.{IsChecked}
use Rattle.rex_state.specs.Value.{StateValue}
use Rattle.rex_state.specs.Sound.{IsSound}
use Rattle.rex_state.proofs.Starts.{flows_found}
use Rattle.rex_wire.proofs.Fields.{IsBytes}
use Rattle.rex_wire.specs.declared.fault.DecodeError.{DecodeError}
use Rattle.rex_snapshot.specs.Spelling.{parts_bytes, HasSpelling, IsSnapshot}
use Rattle.rex_snapshot.specs.Parts.{state_of}
use Rattle.rex_snapshot.specs.Reading.{IsReadState}
use Rattle.rex_snapshot.proofs.PartLaws.{parts_found}
use Rattle.rex_snapshot.proofs.Whole.{sound, has_spelling, parts_again}

pub is_sound : (service : Declarations) (bytes : List ℕ) (r : Result StateValue DecodeError) → IsService service → IsChecked service → IsBytes bytes → IfOk r (λ s. IsReadState service bytes s) → IfOk r (λ s. IsSound service s)
is_sound service bytes (Ok s) good checked are h =
    let flows = flows_found service checked in
    subst (IsSound service) (sym h.is) (sound service flows.0 good flows.1 h.parts (parts_found service bytes h.parts are h.read h.typed).0)
is_sound service bytes (Err e) good checked are h = tt

pub is_found : (service : Declarations) (bytes : List ℕ) (r : Result StateValue DecodeError) → IsService service → IsBytes bytes → IfOk r (λ s. IsReadState service bytes s) → IfOk r (λ s. HasSpelling s × IsSnapshot service s bytes)
is_found service bytes (Ok s) good are h =
    let f = parts_found service bytes h.parts are h.read h.typed in
    let is : IsSnapshot service (state_of h.parts) bytes = record { version = h.parts.version; has = f.0.version; is = f.1 ∙ ap (parts_bytes service) (sym (parts_again service h.parts good f.0)) } in
    subst (λ (x : StateValue). HasSpelling x × IsSnapshot service x bytes) (sym h.is) (has_spelling service h.parts f.0, is)
is_found service bytes (Err e) good are h = tt
