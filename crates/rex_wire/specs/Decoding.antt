-- What a decoder answers.
use Rattle.std.specs.Prelude.{◌≡◌, ℕ, Result, Ok, Err}
use Rattle.rex_wire.specs.declared.fault.DecodeError.{DecodeError}
use Rattle.rex_wire.specs.declared.fault.DecodeError.TheVariants.{Bad, OutOfMemory}
use Rattle.rex_wire.specs.Reading.{Left, Reading}

-- the error is what reading gives, unless memory runs out
abbrev pub Fails : {A : Type 0} → DecodeError → Result A ℕ → Type 0
Fails (Bad at) read = read ≡ Err at
Fails OutOfMemory read = Unit {0}

-- what is answered is what reading gives, unless memory runs out
abbrev pub Gives : {A : Type 0} → Result A DecodeError → Result A ℕ → Type 0
Gives (Ok x) read = read ≡ Ok x
Gives (Err e) read = Fails e read

-- what a call answers that reads on, and the reader after it, are what reading gives, unless memory runs out
abbrev pub ReadsOn : {A : Type 0} → Result A DecodeError → Left → Reading A → Type 0
ReadsOn (Ok x) new read = read ≡ Ok (x, new)
ReadsOn (Err e) new read = Fails e read

-- the bytes are bad; memory did not run out
abbrev pub IsBad : DecodeError → Type 0
IsBad (Bad at) = Unit {0}
IsBad OutOfMemory = ⊥
