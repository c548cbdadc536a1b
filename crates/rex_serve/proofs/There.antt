-- What a frame asks for is there.
use Rattle.std.proofs.Common.{◌≡◌, ◌<◌, ◌≤◌, ℕ, Bool, true, false, not, List, [], ◌∷◌, length, Option, Some, None, refl, sym, ap, ◌-◌, ◌∙◌, subst, arith}
use Rattle.std.specs.Prelude.{◌≢◌, ◌==◌, ◌&&◌, ℤ, IfSome, Result, Ok, Err, drop, nat_le, take, if◌then◌else◌}
use Rattle.std.specs.Int.{w16, w32, from_be_bytes}
use Rattle.std.specs.Option.{option_map_or}
use Rattle.std.proofs.lemmas.Bool.{and_parts, eqb-false}
use Rattle.std.proofs.lemmas.List.Quantifiers.{position-Some}
use Rattle.std.proofs.lemmas.Option.{slice_get-get_or}
use Rattle.rex_wire.specs.Ranges.{is_between}
use Rattle.rex_wire.proofs.Ranges.{is_between-true}
use Rattle.rex_text.specs.Text.{Word, words_of}
use Rattle.rex_text.specs.Numbers.{u64_at}
use Rattle.rex_event.specs.declared.event.TheConstants.{CLIENTS, SEQUENCES}
use Rattle.rex_syntax.specs.declared.service.Declarations.{Declarations}
use Rattle.rex_syntax.specs.declared.service.Handler.{Handler}
use Rattle.rex_syntax.specs.declared.request.Request.{Request}
use Rattle.rex_schedule.specs.Counts.{takes_so_many}
use Rattle.rex_schedule.specs.Fits.{RequestFits}
use Rattle.rex_report.specs.Names.{no_handler}
use Rattle.rex_msg.specs.declared.message.Message.{Message}
use Rattle.rex_msg.specs.Reading as bytes
use Rattle.rex_msg.proofs.MessageAgain.{message_read}
use Rattle.rex_cluster.specs.Quorum.{IsNode}
use Rattle.rex_cluster.specs.Invariant.{IsIn}
use Rattle.rex_frames.specs.declared.asking.Asked.{Asked}
use Rattle.rex_frames.specs.declared.asking.Asked.TheVariants.{Elect, Submit, Run, Turn, Cut, Hear, Foretell, Ask, Read, Look, Nothing}
use Rattle.rex_frames.specs.declared.letters.TheConstants.{ELECT, SUBMIT, RUN, TURN, CUT, HEAR, ASK, READ, LOOK}
use Rattle.rex_frames.specs.Asking.{asked_in, asked_alone, asked_by, asked_with, clock_in, is_before_message, read_by, to_ask, to_hear, to_read, to_run, to_submit, to_turn}
use Rattle.rex_frames.specs.Hearing.{has_askers_ballot, heard_of, is_another, is_for, tells_state}
use Rattle.rex_frames.specs.Requests.{request_in, ◌>>=◌, arguments_of, client_of, count_of, handler_taking, is_taking, request_of, sequence_of, variable_named}
use Rattle.rex_serve.specs.Standing.{CarriesOneOf, HearsOneOf, SpellsOneOf}

-- a request fits, a message comes from another process, and another process that is there is asked
abbrev pub IsThere : Declarations → ℕ → ℕ → Asked → Type 0
IsThere service id nodes (Submit request) = RequestFits service request
IsThere service id nodes (Hear message) = id ≢ message.from
IsThere service id nodes (Foretell message) = id ≢ message.from
IsThere service id nodes (Ask to) = IsNode nodes to × (id ≢ to)
IsThere service id nodes _ = Unit {0}

-- ---- other nodes

not_true : (b : Bool) → not b ≡ true → b ≡ false
not_true true e = absurd cc
not_true false e = refl

another : (id nodes node : ℕ) → is_another id nodes node ≡ true → IsNode nodes node × (id ≢ node)
another id nodes node e =
    let parts = and_parts (is_between 1 nodes node) (not (node == id)) e in
    let range = is_between-true 1 nodes node parts.0 in
    ((omega (arith, range.0), range.1), λ same. eqb-false node id (not_true (node == id) parts.1) (sym same))

-- ---- requests

-- what is asked of the value there is, is asked of what comes of it
bound : {A B : Type 0} (P : B → Type 0) (o : Option A) (f : A → Option B) → ((x : A) → o ≡ Some x → IfSome (f x) P) → IfSome (o >>= f) P
bound P (Some x) f h = h x refl
bound P None f h = tt

count_between : (least most k : ℕ) (o : Option ℕ) → (o >>= λ n. if is_between least most n then Some n else None) ≡ Some k → is_between least most k ≡ true
count_between least most k None e = absurd cc
count_between least most k (Some n) e = by (is_between least most n) refl e
  where
    by : (t : Bool) → is_between least most n ≡ t → (if t then Some n else None) ≡ Some k → is_between least most k ≡ true
    by true b same = let is : n ≡ k = cc in subst (λ (j : ℕ). is_between least most j ≡ true) is b
    by false b same = absurd cc

count_fits : (most k : ℕ) (word : Word) → count_of 1 most word ≡ Some k → (0 < k) × (k ≤ most)
count_fits most k word e = let range = is_between-true 1 most k (count_between 1 most k (u64_at word) e) in (omega (arith, range.0), range.1)

request_fits : (service : Declarations) (words : List Word) → IfSome (request_of service words) (RequestFits service)
request_fits service [] = tt
request_fits service (c ∷ []) = tt
request_fits service (c ∷ s ∷ []) = tt
request_fits service (c ∷ s ∷ name ∷ words) =
    bound (RequestFits service) (client_of c) _ (λ client a.
    bound (RequestFits service) (sequence_of s) _ (λ sequence b.
    bound (RequestFits service) (arguments_of words) _ (λ arguments k.
    bound (RequestFits service) (handler_taking service name (length arguments)) _ (λ handler h.
    let one = count_fits CLIENTS client c a in
    let two = count_fits SEQUENCES sequence s b in
    let at = position-Some (is_taking name (length arguments)) service.handlers handler no_handler h in
    record {
      client = one.0;
      clients = one.1;
      sequence = two.0;
      sequences = two.1;
      handler = at.0;
      takes = subst (λ (o : Option Handler). takes_so_many o (length arguments) ≡ true) (sym (slice_get-get_or service.handlers handler no_handler at.0)) (and_parts _ _ at.1).1;
    }))))

-- ---- frames

-- what holds of all that a frame with no message may ask for
pub record HoldsOfOthers (service : Declarations) (id nodes : ℕ) (P : Asked → Type 0) : Type 0 where
  pub elect : P Elect
  pub submit : (request : Request) → RequestFits service request → P (Submit request)
  pub run : (clock : ℤ) → P (Run clock)
  pub turn : (lane : ℕ) (clock : ℤ) → P (Turn lane clock)
  pub cut : P Cut
  pub ask : (to : ℕ) → IsNode nodes to × (id ≢ to) → P (Ask to)
  pub read : (client variable seen : ℕ) → P (Read client variable seen)
  pub look : P Look
  pub nothing : P Nothing

module _ (service : Declarations) (id nodes : ℕ) (P : Asked → Type 0) (h : HoldsOfOthers service id nodes P) where
  if_holds : (t : Bool) (a b : Asked) → P a → P b → P (if t then a else b)
  if_holds true a b x y = x
  if_holds false a b x y = y

  submit_holds : (o : Option Request) → IfSome o (RequestFits service) → P (option_map_or Submit o Nothing)
  submit_holds (Some r) fits = h.submit r fits
  submit_holds None fits = h.nothing

  ask_holds : (content : List ℕ) → P (to_ask id nodes content)
  ask_holds [] = h.nothing
  ask_holds (to ∷ []) = by (is_another id nodes to) refl
    where
      by : (t : Bool) → is_another id nodes to ≡ t → P (if t then Ask to else Nothing)
      by true e = h.ask to (another id nodes to e)
      by false e = h.nothing
  ask_holds (to ∷ k ∷ content) = h.nothing

  clock_holds : (o : Option ℤ) (f : ℤ → Asked) → ((z : ℤ) → P (f z)) → P (option_map_or f o Nothing)
  clock_holds (Some z) f each = each z
  clock_holds None f each = h.nothing

  turn_holds : (lanes : ℕ) (content : List ℕ) → P (to_turn lanes content)
  turn_holds lanes [] = h.nothing
  turn_holds lanes (number ∷ rest) =
      if_holds (is_between 1 lanes number) (option_map_or (Turn (number - 1)) (clock_in rest) Nothing) Nothing (clock_holds (clock_in rest) (Turn (number - 1)) (λ z. h.turn (number - 1) z)) h.nothing

  named_holds : (client seen : ℕ) (o : Option ℕ) → P (option_map_or (λ variable. Read client variable seen) o Nothing)
  named_holds client seen (Some v) = h.read client v seen
  named_holds client seen None = h.nothing

  client_holds : (client seen : ℕ) (name : List ℕ) → P (read_by service client seen name)
  client_holds client seen name =
      if_holds (is_between 1 CLIENTS client) (option_map_or (λ variable. Read client variable seen) (variable_named service name) Nothing) Nothing (named_holds client seen (variable_named service name)) h.nothing

  read_holds : (content : List ℕ) → P (to_read service content)
  read_holds content =
      if_holds (nat_le 6 (length content)) (read_by service (from_be_bytes w16 (take 2 content)) (from_be_bytes w32 (take 4 (drop 2 content))) (drop 4 (drop 2 content))) Nothing
      (client_holds (from_be_bytes w16 (take 2 content)) (from_be_bytes w32 (take 4 (drop 2 content))) (drop 4 (drop 2 content))) h.nothing

  letter_holds : (letter : ℕ) → P (if letter == ELECT then Elect else if letter == CUT then Cut else if letter == LOOK then Look else Nothing)
  letter_holds letter =
      if_holds (letter == ELECT) Elect (if letter == CUT then Cut else if letter == LOOK then Look else Nothing) h.elect
      (if_holds (letter == CUT) Cut (if letter == LOOK then Look else Nothing) h.cut (if_holds (letter == LOOK) Look Nothing h.look h.nothing))

  alone_holds : (letter : ℕ) (content : List ℕ) → P (asked_alone letter content)
  alone_holds letter content =
      if_holds (length content == 0) (if letter == ELECT then Elect else if letter == CUT then Cut else if letter == LOOK then Look else Nothing) Nothing (letter_holds letter) h.nothing

  -- the letters from a read's on
  read_on : (letter : ℕ) (content : List ℕ) → P (if letter == READ then to_read service content else asked_alone letter content)
  read_on letter content = if_holds (letter == READ) (to_read service content) (asked_alone letter content) (read_holds content) (alone_holds letter content)

  other_holds : (letter : ℕ) (content : List ℕ) → P (asked_by service id nodes letter content)
  other_holds letter content =
      if_holds (letter == SUBMIT) (to_submit service content) _ (submit_holds (request_in service content) (request_fits service (words_of content)))
      (if_holds (letter == RUN) (to_run content) _ (clock_holds (clock_in content) Run h.run)
      (if_holds (letter == TURN) (to_turn service.lanes content) _ (turn_holds service.lanes content)
      (if_holds (letter == ASK) (to_ask id nodes content) _ (ask_holds content) (read_on letter content))))

  -- so it does of whatever a frame asks for, if it holds of a message
  pub asked_holds : (letter : ℕ) (content : List ℕ) → (is_before_message letter ≡ true → P (to_hear id nodes letter content)) → P (asked_in service id nodes (letter ∷ content))
  unfolding asked_in
  asked_holds letter content heard = by (is_before_message letter) refl
    where
      by : (t : Bool) → is_before_message letter ≡ t → P (if t then to_hear id nodes letter content else asked_by service id nodes letter content)
      by true e = heard e
      by false e = other_holds letter content

  pub nothing_holds : P (asked_in service id nodes [])
  unfolding asked_in
  nothing_holds = h.nothing

-- ---- what is there

module _ (service : Declarations) (id nodes : ℕ) where
  abbrev Fits : Asked → Type 0
  Fits asked = IsThere service id nodes asked

  others_fit : HoldsOfOthers service id nodes (λ asked. IsThere service id nodes asked)
  others_fit = record { elect = tt; submit = λ r fits. fits; run = λ z. tt; turn = λ lane z. tt; cut = tt; ask = λ to there. there; read = λ client variable seen. tt; look = tt; nothing = tt }

  heard_fits : (letter : ℕ) (o : Result Message ℕ) → Fits (option_map_or (asked_with letter) (heard_of id nodes o) Nothing)
  heard_fits letter (Err at) = tt
  heard_fits letter (Ok m) = by (is_for id nodes m) refl
    where
      either : (t : Bool) → (id ≢ m.from) → Fits (if t then Hear m else Foretell m)
      either true h = h
      either false h = h

      by : (t : Bool) → is_for id nodes m ≡ t → Fits (option_map_or (asked_with letter) (if t then Some m else None) Nothing)
      by false e = tt
      by true e =
          let last = and_parts (m.to == id && is_another id nodes m.from && not (tells_state m.content)) (has_askers_ballot m.from m.to m.content) e in
          let state = and_parts (m.to == id && is_another id nodes m.from) (not (tells_state m.content)) last.0 in
          let first = and_parts (m.to == id) (is_another id nodes m.from) state.0 in
          either (letter == HEAR) (another id nodes m.from first.1).1

  -- whatever a frame asks for
  pub all_there : (frame : List ℕ) → Fits (asked_in service id nodes frame)
  all_there [] = nothing_holds service id nodes (λ asked. IsThere service id nodes asked) others_fit
  all_there (letter ∷ content) = asked_holds service id nodes (λ asked. IsThere service id nodes asked) others_fit letter content (λ e. heard_fits letter (bytes.message_in content))

-- ---- what was told

others_told : (service : Declarations) (id nodes : ℕ) (told : List Message) → HoldsOfOthers service id nodes (λ asked. HearsOneOf told asked)
others_told service id nodes told =
    record { elect = tt; submit = λ r fits. tt; run = λ z. tt; turn = λ lane z. tt; cut = tt; ask = λ to there. tt; read = λ client variable seen. tt; look = tt; nothing = tt }

-- a frame that carries the bytes of a message that was told hears that one, or nothing
pub carried_told : (service : Declarations) (id nodes : ℕ) (told : List Message) (frame : List ℕ) → CarriesOneOf told frame
    → HearsOneOf told (asked_in service id nodes frame)
carried_told service id nodes told [] h = nothing_holds service id nodes (λ asked. HearsOneOf told asked) (others_told service id nodes told)
carried_told service id nodes told (letter ∷ content) h = asked_holds service id nodes (λ asked. HearsOneOf told asked) (others_told service id nodes told) letter content (λ e. by (h e))
  where
    either : (m : Message) → IsIn m told → (t : Bool) → HearsOneOf told (if t then Hear m else Foretell m)
    either m there true = there
    either m there false = there

    heard : (m : Message) → IsIn m told → (t : Bool) → HearsOneOf told (option_map_or (asked_with letter) (if t then Some m else None) Nothing)
    heard m there true = either m there (letter == HEAR)
    heard m there false = tt

    by : SpellsOneOf told content → HearsOneOf told (option_map_or (asked_with letter) (heard_of id nodes (bytes.message_in content)) Nothing)
    by c =
        subst (λ (o : Result Message ℕ). HearsOneOf told (option_map_or (asked_with letter) (heard_of id nodes o) Nothing)) (sym (ap bytes.message_in c.bytes ∙ message_read c.message c.spelling))
        (heard c.message c.among (is_for id nodes c.message))
