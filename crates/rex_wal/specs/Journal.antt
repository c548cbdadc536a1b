-- The bytes of a journal, and which records they hold.
use Rattle.std.specs.Prelude.{◌≡◌, ◌≢◌, ◌⊎◌, ◌<◌, ◌+◌, ◌-◌, ℕ, nat_lt, cond, List, [], ◌∷◌, ◌++◌, length, All, Option, Some, None, codes}
use Rattle.rex_file.specs.Mixing.{byte_at}

-- what a journal begins with
abbrev pub head : List ℕ
head = codes "rexnode" ++ 10 ∷ []

-- a byte of a record as it is spelled, without a byte 0; 255 is the first one of two
abbrev pub mark : ℕ → List ℕ
mark b = cond (nat_lt b 254) ((b + 1) ∷ []) (255 ∷ (b - 252) ∷ [])

-- the bytes of a record as they are spelled
abbrev pub marks : List ℕ → List ℕ
marks [] = []
marks (b ∷ bytes) = mark b ++ marks bytes

-- a record as it is spelled: its bytes, and an end mark
abbrev pub entry : List ℕ → List ℕ
entry bytes = marks bytes ++ 255 ∷ 1 ∷ []

-- records one after another
abbrev pub entries : List (List ℕ) → List ℕ
entries [] = []
entries (r ∷ records) = entry r ++ entries records

-- a record of bytes
abbrev pub IsRecord : List ℕ → Type 0
IsRecord bytes = (i : ℕ) → byte_at bytes i < 256

-- no record stands whole at the front of these bytes
abbrev pub BeginsNone : List ℕ → Type 0
BeginsNone bytes = (r behind : List ℕ) → IsRecord r → bytes ≢ entry r ++ behind

-- behind an end mark only 0 stands
abbrev pub NoneLater : List ℕ → Type 0
NoneLater bytes = (i : ℕ) → byte_at bytes i ≡ 255 → byte_at bytes (i + 1) ≡ 1 → byte_at bytes (i + 2) ≡ 0

-- a file has the head, and behind it these records, and then bytes of which none is at the front
pub record BeginsWithRecords (file : List ℕ) (records : List (List ℕ)) : Type 0 where
  pub rest : List ℕ
  pub split : file ≡ head ++ (entries records ++ rest)
  pub ended : BeginsNone rest
  pub each : All IsRecord records

-- and no later one follows either
pub record HasRecords (file : List ℕ) (records : List (List ℕ)) : Type 0 where
  pub front : BeginsWithRecords file records
  pub none_later : NoneLater front.rest

-- each byte of a file is 0, or the one that the head has there
abbrev pub IsBegun : List ℕ → Type 0
IsBegun file = (i : ℕ) → (byte_at file i ≡ 0) ⊎ (byte_at file i ≡ byte_at head i)

-- a file holds these records and no others: none, where it has no more than a part of the head
abbrev pub Holds : List ℕ → List (List ℕ) → Type 0
Holds file records = HasRecords file records ⊎ (IsBegun file × (records ≡ []))

-- a file doesn't begin as a journal does
pub record IsNoJournal (file : List ℕ) : Type 0 where
  pub no_head : (behind : List ℕ) → file ≢ head ++ behind
  pub not_begun : IsBegun file → ⊥

-- what stands at this place of a file, behind whole records, is none, and later ones follow
pub record HasGap (file : List ℕ) (at : ℕ) : Type 0 where
  pub records : List (List ℕ)
  pub front : BeginsWithRecords file records
  pub place : at ≡ length head + length (entries records)
  pub later : ℕ
  pub mark : byte_at front.rest later ≡ 255
  pub end : byte_at front.rest (later + 1) ≡ 1
  pub some : byte_at front.rest (later + 2) ≢ 0

-- a file is bad at this place, whatever a stop left of it
abbrev pub IsBad : List ℕ → ℕ → Type 0
IsBad file at = (IsNoJournal file × (at ≡ 0)) ⊎ HasGap file at

-- it holds these records with the one that is pending
abbrev pub HoldsPending : List ℕ → List (List ℕ) → Option (List ℕ) → Type 0
HoldsPending file records None = ⊥
HoldsPending file records (Some one_more) = Holds file (records ++ one_more ∷ [])

-- a file stands for these records: it holds them, with the pending one or without
abbrev pub StandsFor : List (List ℕ) → Option (List ℕ) → List ℕ → Type 0
StandsFor records pending file = Holds file records ⊎ HoldsPending file records pending
