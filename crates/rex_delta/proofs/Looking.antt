-- An event of which only its lane is kept, and whether it is on a semaphore.
use Rattle.std.proofs.Common.{◌≡◌, ℕ, ◌-◌, Bool, List, length, Ok, Err, sym, ap}
use Rattle.std.specs.Prelude.{is_some}
use Rattle.std.specs.Int.{w8}
use Rattle.rex_event.specs.declared.event.Kind.{Kind}
use Rattle.rex_event.specs.declared.event.Event.{Event}
use Rattle.rex_event.specs.Conflict.{named_semaphore}
use Rattle.rex_event.specs.Cuts.{count_at}
use Rattle.rex_wire.specs.Reading.{Left, Reading, ◌>>=◌, allowed_at}
use Rattle.rex_wire.specs.Decoding.{Fails}
use Rattle.rex_wire.specs.declared.fault.DecodeError.{DecodeError}
use Rattle.rex_wire.specs.declared.fault.DecodeError.TheVariants.{Bad, OutOfMemory}
use Rattle.rex_wire.proofs.Fields.{ok_is}
use Rattle.rex_delta.specs.Spelling.{is_between}
use Rattle.rex_delta.specs.Reading.{kind_at}
use Rattle.rex_delta.specs.Parts.{counting, head_at, seen_at}
use Rattle.rex_delta.specs.declared.pass_kinds.Seen.{Seen}
use Rattle.rex_delta.proofs.Lists.{event_of, event_then}

-- the event that was looked at
pub record WasSeen (head : Reading Event) (counts : List ℕ) (seen : Seen) (after : Left) : Type 0 where
  pub event : Event
  pub is : head ≡ Ok (event, after)
  pub lane_is : event.lane ≡ seen.lane
  pub index_is : event.index ≡ count_at counts seen.lane
  pub counting_is : seen.is_counting ≡ is_some (named_semaphore event.kind)

abbrev seen_of : ℕ → Bool → Seen
seen_of number is_counting = record { lane = number - 1; is_counting = is_counting }

abbrev seen_then : ℕ → Bool × Left → Reading Seen
seen_then number b = Ok (seen_of number b.0, b.1)

kind_seen : (k : Reading Kind) (number : ℕ) (counts : List ℕ) (seen : Seen) (after : Left) → (counting k >>= seen_then number) ≡ Ok (seen, after) → WasSeen (k >>= event_then counts number) counts seen after
kind_seen (Ok k) number counts seen after e =
    let both = ok_is (seen_of number (is_some (named_semaphore k.0)), k.1) (seen, after) e in
    let lane : number - 1 ≡ seen.lane = ap (λ (x : Seen × Left). x.0.lane) both in
    record {
      event = event_of counts number k.0;
      is = ap (λ (x : Seen × Left). let r : Reading Event = Ok (event_of counts number k.0, x.1) in r) both;
      lane_is = lane;
      index_is = ap (count_at counts) lane;
      counting_is = sym (ap (λ (x : Seen × Left). x.0.is_counting) both);
    }
kind_seen (Err at) number counts seen after e = absurd cc

lane_seen : (r : Reading ℕ) (counts : List ℕ) (kind : Left → Reading Kind) (seen : Seen) (after : Left) → (r >>= λ number. counting (kind number.1) >>= seen_then number.0) ≡ Ok (seen, after)
    → WasSeen (r >>= λ number. kind number.1 >>= event_then counts number.0) counts seen after
lane_seen (Ok x) counts kind seen after e = kind_seen (kind x.1) x.0 counts seen after e
lane_seen (Err at) counts kind seen after e = absurd cc

pub was_seen : (counts : List ℕ) (least most : ℕ) (l after : Left) (seen : Seen) → seen_at counts least most l ≡ Ok (seen, after) → WasSeen (head_at counts least most l) counts seen after
unfolding head_at seen_at
was_seen counts least most l after seen e = lane_seen (allowed_at w8 (is_between 1 (length counts)) l) counts (kind_at (length counts) least most) seen after e

kind_fails : (at : ℕ) (k : Reading Kind) (number : ℕ) (counts : List ℕ) → (counting k >>= seen_then number) ≡ Err at → (k >>= event_then counts number) ≡ Err at
kind_fails at (Ok k) number counts bad = absurd cc
kind_fails at (Err place) number counts bad = cc

lane_fails : (at : ℕ) (r : Reading ℕ) (counts : List ℕ) (kind : Left → Reading Kind) → (r >>= λ number. counting (kind number.1) >>= seen_then number.0) ≡ Err at → (r >>= λ number. kind number.1 >>= event_then counts number.0) ≡ Err at
lane_fails at (Ok x) counts kind bad = kind_fails at (kind x.1) x.0 counts bad
lane_fails at (Err place) counts kind bad = cc

-- what fails so fails
pub seen_fails : (e : DecodeError) (counts : List ℕ) (least most : ℕ) (l : Left) → Fails e (seen_at counts least most l) → Fails e (head_at counts least most l)
unfolding head_at seen_at
seen_fails (Bad at) counts least most l bad = lane_fails at (allowed_at w8 (is_between 1 (length counts)) l) counts (kind_at (length counts) least most) bad
seen_fails OutOfMemory counts least most l bad = tt
