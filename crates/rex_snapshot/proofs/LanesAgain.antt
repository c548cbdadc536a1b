-- Lanes that are spelled are read again.
use Rattle.std.proofs.Common.{◌≡◌, ◌⊎◌, inl, inr, ℕ, ◌+◌, ◌-◌, ◌<◌, ◌≤◌, ◌^◌, Bool, false, ℤ, List, [], ◌∷◌, length, map, drop, get_or, Ok, refl, sym, ap, subst, ◌∙◌, arith, FitsSigned, w64, eqb}
use Rattle.std.specs.Prelude.{◌==◌, Option, Some, None, nat_le, slice_get}
use Rattle.std.specs.Int.{w8, w16, w32, to_be_bytes}
use Rattle.std.specs.List.{All, flat_map}
use Rattle.std.proofs.lemmas.Bool.{le-leb, cases_lt}
use Rattle.std.proofs.lemmas.List.{drop_more, drop_all, length-map}
use Rattle.std.proofs.lemmas.List.Elements.{All-head, All-tail}
use Rattle.std.proofs.lemmas.Option.{same_Some, slice_get-get_or, slice_get_within}
use Rattle.rex_syntax.specs.declared.locks.Lockset.{Lockset}
use Rattle.rex_syntax.specs.declared.service.Declarations.{Declarations}
use Rattle.rex_syntax.specs.declared.line.Line.{Line}
use Rattle.rex_syntax.specs.declared.line.Line.TheVariants.{Repeat, EndIf}
use Rattle.rex_syntax.specs.Service.{IsService, LineNames}
use Rattle.rex_syntax.specs.Shape.{open_at}
use Rattle.rex_frame.specs.declared.frame.Phase.{Phase}
use Rattle.rex_frame.specs.declared.frame.Phase.TheVariants.{Running, Waiting}
use Rattle.rex_frame.specs.declared.frame.Turn.{Turn}
use Rattle.rex_frame.specs.declared.frame.Frame.{Frame}
use Rattle.rex_frame.specs.Phases.{is_running}
use Rattle.rex_frame.specs.Handlers.{lines_of, locals_of}
use Rattle.rex_frame.specs.Weights.{turns_in, turns_of, body_of}
use Rattle.rex_state.proofs.Fits.{no_handler}
use Rattle.rex_state.proofs.Names.{handler_at as handler_good, lines_are}
use Rattle.rex_wire.specs.Reading.{◌>>=◌, allowed_at, list_at}
use Rattle.rex_wire.specs.Spelling.{byte, signed}
use Rattle.rex_wire.proofs.Fields.{IsRead, IsRead-none, IsRead-then, IsRead-last, IsRead-same}
use Rattle.rex_wire.proofs.Numbers.{wide8, wide16, wide32, allowed_again, signed_again}
use Rattle.rex_wire.specs.Ranges.{is_between}
use Rattle.rex_wire.proofs.Ranges.{is_between-true, between-is}
use Rattle.rex_snapshot.specs.declared.parts.Seat.{Seat}
use Rattle.rex_snapshot.specs.Spelling.{greatest_count, turn_bytes, frame_bytes, status_of, busy_bytes, seat_bytes}
use Rattle.rex_snapshot.specs.Allowed.{may_be_new_client, may_be_line}
use Rattle.rex_snapshot.specs.Reading.{alike, with_last, counted, into_array, value_at, values_at, turn_at, turn_of_at, turns_at, handler_at, line_at, frame_at, waits_by, busy_at, idle_seat, placed_at, seat_at, seats_at}
use Rattle.rex_wire.proofs.Lists.{AreEach, AreEach-from_all}
use Rattle.rex_snapshot.proofs.ListLaws.{list_again, array_again}
use Rattle.rex_snapshot.proofs.LaneLaws.{AreValues, IsTurn, MayTurn, AreTurns, handler_text, place_text, MayLine, IsFrame, frame_of, WaitsFit, frame_condition, IsPlaced, IsSeat, number_in, frame_text, busy_parts, busy_seat}
use Rattle.std.proofs.lemmas.Bool.{and_parts}

-- ---- values

pub values_again : (n : ℕ) (vs : List ℤ) → AreValues n vs → IsRead (values_at n) (flat_map signed vs) vs
values_again n vs are =
    subst (λ (m : ℕ). IsRead (values_at m) (flat_map signed vs) vs) are.long
    (list_again value_at alike signed (λ _. FitsSigned w64) (λ s v fits. record { again = (signed_again v fits).again }) tt vs (AreEach-from_all (FitsSigned w64) tt vs are.typed))

-- ---- turns

turn_again : (lines : List Line) (body : ℕ) (t : Turn) → turns_of lines body ≤ 1000 → IsTurn lines body t → IsRead (turn_at lines body) (turn_bytes t) t
unfolding turn_at
turn_again lines body t few is =
    let make : ℕ → Turn = λ left. record { body = body; left = left } in
    let same : make t.left ≡ t = ap (λ (b : ℕ). let u : Turn = record { body = b; left = t.left } in u) (sym is.body_is) in
    subst (λ (u : Turn). IsRead (turn_at lines body) (turn_bytes t) u) same
    (IsRead-last (allowed_at w16 (is_between 1 (turns_of lines body))) make (turn_bytes t) t.left
    (allowed_again wide16 (is_between 1 (turns_of lines body)) t.left (omega (arith, is.most)) (between-is 1 (turns_of lines body) t.left (is.some, is.most))))

abbrev MayTurnFew : List Line → List ℕ → ℕ → Turn → Type 0
MayTurnFew lines bodies n t = MayTurn lines bodies n t × (turns_of lines (get_or bodies n 0) ≤ 1000)

each_turn : (lines : List Line) (bodies : List ℕ) → ((body : ℕ) → turns_of lines body ≤ 1000) → (n : ℕ) (ts : List Turn) → map body_of ts ≡ drop n bodies → All (λ t. 0 < t.left) ts → All (λ t. t.left ≤ turns_of lines t.body) ts → AreEach counted (MayTurnFew lines bodies) n ts
each_turn lines bodies few n [] e left most = tt
each_turn lines bodies few n (t ∷ ts) e left most = by (cases_lt n (length bodies)) (λ f. each_turn lines bodies few (n + 1) ts f (All-tail (λ x. 0 < x.left) t ts left) (All-tail (λ x. x.left ≤ turns_of lines x.body) t ts most))
  where
    by : (n < length bodies) ⊎ (length bodies ≤ n) → (map body_of ts ≡ drop (n + 1) bodies → AreEach counted (MayTurnFew lines bodies) (n + 1) ts) → AreEach counted (MayTurnFew lines bodies) n (t ∷ ts)
    by (inl lt) later =
        let f : t.body ∷ map body_of ts ≡ get_or bodies n 0 ∷ drop (n + 1) bodies = e ∙ drop_more bodies n 0 lt in
        let body : t.body ≡ get_or bodies n 0 = cc in
        let rest : map body_of ts ≡ drop (n + 1) bodies = cc in
        let some : 0 < t.left = All-head (λ x. 0 < x.left) t ts left in
        let own : t.left ≤ turns_of lines t.body = All-head (λ x. x.left ≤ turns_of lines x.body) t ts most in
        ((record { body_is = body; some = omega arith; most = subst (λ (b : ℕ). t.left ≤ turns_of lines b) body own }, few (get_or bodies n 0)), later rest)
    by (inr le) later = absurd (let none : drop n bodies ≡ [] = drop_all n bodies le in let f : t.body ∷ map body_of ts ≡ [] = e ∙ none in cc)

turns_again : (lines : List Line) (bodies : List ℕ) (ts : List Turn) → ((body : ℕ) → turns_of lines body ≤ 1000) → AreTurns lines bodies ts → IsRead (turns_at lines bodies) (flat_map turn_bytes ts) ts
turns_again lines bodies ts few are =
    let long : length ts ≡ length bodies = sym (length-map ts body_of) ∙ ap length are.bodies_are in
    subst (λ (n : ℕ). IsRead (λ l. list_at (turn_of_at lines bodies) counted n 0 l) (flat_map turn_bytes ts) ts) long
    (list_again (turn_of_at lines bodies) counted turn_bytes (MayTurnFew lines bodies) (λ n t h. turn_again lines (get_or bodies n 0) t h.1 h.0) 0 ts (each_turn lines bodies few 0 ts are.bodies_are are.left are.most))

-- ---- frames

module _ (service : Declarations) (good : IsService service) where
  turns_few_in : (handler : ℕ) (o : Option Line) → ((line : Line) → o ≡ Some line → (locals : ℕ) × LineNames service locals line) → turns_in o ≤ 1000
  turns_few_in handler None h = omega arith
  turns_few_in handler (Some (Repeat turns after)) h = (h (Repeat turns after) refl).1.1
  turns_few_in handler (Some line) h = omega arith

  pub turns_few : (handler body : ℕ) → handler < length service.handlers → turns_of (lines_of service handler) body ≤ 1000
  turns_few handler body h =
      let found = handler_good service good handler h in
      let its = get_or service.handlers handler no_handler in
      subst (λ (ls : List Line). turns_of ls body ≤ 1000) (sym (lines_are service good handler h))
      (turns_few_in handler (slice_get its.lines (body - 1)) (λ line e. (its.locals, named its.locals its.lines line e found.names)))
    where
      named : (locals : ℕ) (lines : List Line) (line : Line) → slice_get lines (body - 1) ≡ Some line → All (LineNames service locals) lines → LineNames service locals line
      named locals lines line e names =
          let inside = slice_get_within lines (body - 1) line e in
          let at : get_or lines (body - 1) EndIf ≡ line = same_Some _ _ (sym (slice_get-get_or lines (body - 1) EndIf inside) ∙ e) in
          subst (LineNames service locals) at (names (body - 1) EndIf inside)

  handler_again : (h : ℕ) → h < length service.handlers → IsRead (handler_at service) (handler_text h) h
  unfolding handler_at
  handler_again h lt =
      let back : (h + 1) - 1 ≡ h = omega arith in
      subst (λ (n : ℕ). IsRead (handler_at service) (handler_text h) n) back
      (IsRead-last (allowed_at w8 (is_between 1 (length service.handlers))) (λ n. n - 1) (handler_text h) (h + 1)
      (allowed_again wide8 (is_between 1 (length service.handlers)) (h + 1) (omega (arith, good.few_handlers)) (between-is 1 (length service.handlers) (h + 1) (omega arith, omega arith))))

  line_again : (earlier : List Seat) (runs : Bool) (handler place : ℕ) → place + 1 < 2 ^ 16 → MayLine service earlier runs handler place → IsRead (line_at service earlier runs handler) (place_text place) place
  unfolding line_at
  line_again earlier runs handler place narrow may =
      let back : (place + 1) - 1 ≡ place = omega arith in
      subst (λ (n : ℕ). IsRead (line_at service earlier runs handler) (place_text place) n) back
      (IsRead-last (allowed_at w16 (may_be_line service earlier runs handler)) (λ n. n - 1) (place_text place) (place + 1)
      (allowed_again wide16 (may_be_line service earlier runs handler) (place + 1) narrow may))

  pub lines_few : (handler : ℕ) → handler < length service.handlers → length (lines_of service handler) ≤ 256
  lines_few handler h = subst (λ (ls : List Line). length ls ≤ 256) (sym (lines_are service good handler h)) (handler_good service good handler h).short

  frame_again : (earlier : List Seat) (runs : Bool) (f : Frame) → IsFrame service earlier runs f → IsRead (frame_at service earlier runs) (frame_bytes f) f
  unfolding frame_at
  frame_again earlier runs f h =
      let client = is_between-true 1 256 f.client (and_parts _ _ h.client).0 in
      let place = is_between-true 1 (length (lines_of service f.handler)) (f.place + 1) (and_parts _ _ h.line).0 in
      let few = lines_few f.handler h.handler in
      let lines = lines_of service f.handler in
      let made = frame_of service runs f.client f.sequence f.handler f.place f.locals f.turns in
      let same : made ≡ f = ap (λ (x : Lockset). let g : Frame = record made { held = x } in g) (sym h.held) ∙ ap (λ (x : Phase). let g : Frame = record f { phase = x } in g) (sym h.phase) in
      subst (λ (g : Frame). IsRead (frame_at service earlier runs) (frame_bytes f) g) same
      (IsRead-then (allowed_at w16 (may_be_new_client earlier)) _ (to_be_bytes w16 f.client) _ f.client made (allowed_again wide16 (may_be_new_client earlier) f.client (omega (arith, client.1)) h.client)
      (IsRead-then (allowed_at w32 (is_between 1 1000000)) _ (to_be_bytes w32 f.sequence) _ f.sequence made (allowed_again wide32 (is_between 1 1000000) f.sequence (omega (arith, h.sequence.1)) (between-is 1 1000000 f.sequence h.sequence))
      (IsRead-then (handler_at service) _ (handler_text f.handler) _ f.handler made (handler_again f.handler h.handler)
      (IsRead-then (line_at service earlier runs f.handler) _ (place_text f.place) _ f.place made (line_again earlier runs f.handler f.place (omega (arith, place.1, few)) h.line)
      (IsRead-then (λ l. into_array (values_at (locals_of service f.handler) l)) _ (flat_map signed f.locals.items) (flat_map turn_bytes f.turns.items) f.locals made (array_again (values_at (locals_of service f.handler)) (flat_map signed f.locals.items) f.locals.items (values_again (locals_of service f.handler) f.locals.items h.locals))
      (IsRead-last (λ l. into_array (turns_at lines (open_at lines f.place) l)) (λ ts. frame_of service runs f.client f.sequence f.handler f.place f.locals ts) (flat_map turn_bytes f.turns.items) f.turns
      (array_again (turns_at lines (open_at lines f.place)) (flat_map turn_bytes f.turns.items) f.turns.items (turns_again lines (open_at lines f.place) f.turns.items (λ body. turns_few f.handler body h.handler) h.turns))))))))

  -- ---- lanes

  -- the status of a busy lane tells how it was read
  record StatusOf (f : Frame) (waits : Option ℕ) (status : ℕ) : Type 0 where
    pub busy : eqb status 0 ≡ false
    pub most : status ≤ 3
    pub runs : is_running f.phase ≡ eqb status 1
    pub waits_are : waits_by service status f ≡ waits

  status_by : (f : Frame) (waits : Option ℕ) (ph : Phase) → f.phase ≡ ph → WaitsFit ph waits (frame_condition service f) → StatusOf f waits (status_of ph waits)
  status_by f waits Running e fit = record { busy = refl; most = omega arith; runs = ap is_running e; waits_are = sym fit }
  status_by f None Waiting e fit = record { busy = refl; most = omega arith; runs = ap is_running e; waits_are = refl }
  status_by f (Some condition) Waiting e fit = record { busy = refl; most = omega arith; runs = ap is_running e; waits_are = fit }

  busy_again : (earlier : List Seat) (done status : ℕ) (f : Frame) → IsFrame service earlier (eqb status 1) f → IsRead (busy_at service earlier done status) (frame_bytes f) (busy_seat service done status f)
  unfolding busy_at
  busy_again earlier done status f h = IsRead-last (frame_at service earlier (status == 1)) (busy_seat service done status) (frame_bytes f) f (frame_again earlier (status == 1) f h)

  abbrev seat_with : ℕ → Option Frame → Option ℕ → Seat
  seat_with done o waits = record { lane = record { done = done; frame = o }; waits = waits }

  placed_again : (earlier : List Seat) (done : ℕ) (o : Option Frame) (waits : Option ℕ) → IsPlaced service earlier o waits → (number_in o waits ≤ 3) × IsRead (placed_at service earlier done (number_in o waits)) (frame_text o) (seat_with done o waits)
  placed_again earlier done None waits none = (omega arith, subst (λ (w : Option ℕ). IsRead (λ l. Ok (idle_seat done, l)) [] (seat_with done None w)) (sym none) (IsRead-none (idle_seat done)))
  placed_again earlier done (Some f) waits busy =
      let status = status_of f.phase waits in
      let st = status_by f waits f.phase refl busy.waits_fit in
      let frame : IsFrame service earlier (eqb status 1) f = subst (λ (b : Bool). IsFrame service earlier b f) st.runs busy.frame in
      let read = busy_again earlier done status f frame in
      let seat : IsRead (busy_at service earlier done status) (frame_bytes f) (seat_with done (Some f) waits) = subst (λ (w : Option ℕ). IsRead (busy_at service earlier done status) (frame_bytes f) (seat_with done (Some f) w)) st.waits_are read in
      (st.most, IsRead-same (placed_at service earlier done status) (busy_at service earlier done status) (frame_bytes f) (seat_with done (Some f) waits) (λ l. rw st.busy refl) seat)

  pub seat_again : (earlier : List Seat) (s : Seat) → IsSeat service earlier s → IsRead (seat_at service earlier) (seat_bytes s) s
  unfolding seat_at
  seat_again earlier s h =
      let placed = placed_again earlier s.lane.done s.lane.frame s.waits h.placed in
      let number = number_in s.lane.frame s.waits in
      let rest : IsRead (λ l. allowed_at w8 (λ n. nat_le n 3) l >>= λ status. placed_at service earlier s.lane.done status.0 status.1) (busy_bytes s.lane.frame s.waits) s =
      subst (λ (text : List ℕ). IsRead (λ l. allowed_at w8 (λ n. nat_le n 3) l >>= λ status. placed_at service earlier s.lane.done status.0 status.1) text s) (sym (busy_parts s.lane.frame s.waits))
      (IsRead-then (allowed_at w8 (λ n. nat_le n 3)) (λ status. placed_at service earlier s.lane.done status.0 status.1) (byte number) (frame_text s.lane.frame) number s (allowed_again wide8 (λ n. nat_le n 3) number (omega (arith, placed.0)) (le-leb number 3 placed.0)) placed.1) in
      IsRead-then (allowed_at w32 (λ n. nat_le n greatest_count)) (λ done. allowed_at w8 (λ n. nat_le n 3) done.1 >>= λ status. placed_at service earlier done.0 status.0 status.1) (to_be_bytes w32 s.lane.done) (busy_bytes s.lane.frame s.waits) s.lane.done s
      (allowed_again wide32 (λ n. nat_le n greatest_count) s.lane.done (omega (arith, h.few)) (le-leb s.lane.done greatest_count h.few)) rest

  pub seats_again : (seats : List Seat) → AreEach with_last (IsSeat service) [] seats → IsRead (seats_at service (length seats)) (flat_map seat_bytes seats) seats
  seats_again seats each = list_again (seat_at service) with_last seat_bytes (IsSeat service) seat_again [] seats each
