-- What workers hand back is what a board needs in the end.
use Rattle.std.proofs.Common.{◌≡◌, ℕ, ◌<◌, List, [], ◌∷◌, length, map, get_or, sym, refl, ap, ◌∙◌, subst, ⊎_elim, inl, inr, arith}
use Rattle.std.specs.Prelude.{Some}
use Rattle.std.specs.List.{All}
use Rattle.std.specs.declared.vec.Vec.{Vec}
use Rattle.std.specs.declared.alloc.Global.{Global}
use mathlib.Core.Option.{some}
use lib.ListN.{get_elem?}
use Rattle.atomic_table.specs.Seated.{TableId}
use Rattle.rex_syntax.specs.declared.service.Declarations.{Declarations}
use Rattle.rex_event.specs.declared.event.Event.{Event}
use Rattle.rex_event.specs.Order.{Has}
use Rattle.rex_state.specs.Value.{StateValue}
use Rattle.rex_state.specs.Machine.{run}
use Rattle.rex_clocks.proofs.Leads.{all_from_has}
use Rattle.rex_board.specs.declared.recording.Recording.{Recording}
use Rattle.rex_board.specs.declared.board.Board.{Board}
use Rattle.rex_board.specs.declared.seat.LaneSeat.{LaneSeat}
use Rattle.rex_board.specs.Recorded.{service_of}
use Rattle.rex_board.specs.Turns.{IsSeatOf}
use Rattle.rex_board.specs.Boards.{IsBoard, recording_of, table_of}
use Rattle.rex_board.specs.Dealing.{AreDealt}
use Rattle.rex_board.specs.Finishing.{AreAllFinished}
use Rattle.rex_board.proofs.Reading.{reads, there, has_at, at_has}
use Rattle.rex_crew.specs.declared.dealing.Job.{Job}
use Rattle.rex_crew.specs.Rounds.{lane_of, AreSeatsOf, AreSameLanes, AreFinished}
use Rattle.rex_crew.specs.Work.{IsHandedBack}
use Rattle.rex_crew.specs.Jobs.{IsJob, AllHandedBack}
use Rattle.rex_crew.specs.Dealing.{AreAllSeats, AreJobs, AreGathered}
use Rattle.rex_crew.proofs.Working.{has}
use Rattle.rex_crew.proofs.RoundKeeps.{gets}

has_elem : {X : Type 0} (l : List X) (k : ℕ) (x : X) → get_elem? l k ≡ some x → Has x l
has_elem {X = X} l k x e = subst (λ (y : X). Has y l) (gets l k x e) (has_at l k x (there l k x e))

elem_has : {X : Type 0} (l : List X) (x : X) → Has x l → (k : ℕ) × (get_elem? l k ≡ some x)
elem_has {X = X} l x h = let q = at_has l x h in (q.0, reads l q.0 x q.1 ∙ ap (λ (y : X). some y) q.2)

has_lane : (ms : List LaneSeat) (m : LaneSeat) → Has m ms → Has m.lane (map lane_of ms)
has_lane [] m h = absurd h
has_lane (x ∷ ms) m (inl e) = inl (ap lane_of e)
has_lane (x ∷ ms) m (inr h) = inr (has_lane ms m h)

lane_has : (ms : List LaneSeat) (lane : ℕ) → Has lane (map lane_of ms) → (m : LaneSeat) × Has m ms × (m.lane ≡ lane)
lane_has [] lane h = absurd h
lane_has (x ∷ ms) lane (inl e) = (x, inl refl, e)
lane_has (x ∷ ms) lane (inr h) = let q = lane_has ms lane h in (q.0, inr q.1, q.2)

-- seats of the same lanes: what has one has the other
same_lane : (ms ms' : List LaneSeat) (m : LaneSeat) → map lane_of ms' ≡ map lane_of ms → Has m ms → (m' : LaneSeat) × Has m' ms' × (m'.lane ≡ m.lane)
same_lane ms ms' m e h = lane_has ms' m.lane (subst (λ (l : List ℕ). Has m.lane l) (sym e) (has_lane ms m h))

-- a run of the same
module _ (service service' : Declarations) (s s' : StateValue) (es es' : List Event) (t : StateValue) where
  pub same_run : service' ≡ service → s' ≡ s → es' ≡ es → run service' s' es' ≡ Some t → run service s es ≡ Some t
  same_run a b d h = (λ i. run (sym a i) (sym b i) (sym d i)) ∙ h

-- the seats of all lanes are all seats
pub all_dealt : (t : Recording) (z : TableId) (n : ℕ) (ms : List LaneSeat) → AreDealt t z n ms → (service_of t).lanes ≡ n → AreAllSeats z t ms
all_dealt t z n ms dealt are = record {
  seats = λ k m e. let lt = there ms k m e in subst (IsSeatOf t z) (gets ms k m e) (dealt.each k m (omega (arith, lt, dealt.count))).0;
  every = λ lane lt.
      let s = has ms lane (omega (arith, lt, are, dealt.count)) in
      (s.0, has_elem ms lane s.0 s.1, subst (λ (x : LaneSeat). x.lane ≡ lane) (gets ms lane s.0 s.1) (dealt.each lane s.0 (omega (arith, lt, are))).1);
}

module _ (z : TableId) (t : Recording) (ms ms' : List LaneSeat) (all : AreAllSeats z t ms) where
  -- so are seats of the same lanes
  pub still_all : AreSeatsOf z t ms' → map lane_of ms' ≡ map lane_of ms → AreAllSeats z t ms'
  still_all seats lanes = record { seats = seats; every = λ lane lt. let q = all.every lane lt in let p = same_lane ms ms' q.0 lanes q.1 in (p.0, p.1, p.2 ∙ q.2) }

  -- and they are what a board needs in the end, once they are finished
  pub all_finished : AreSameLanes z t ms ms' → AreFinished t ms' → AreAllFinished t z ms'
  all_finished kept done = record {
    each = λ m h. let i = elem_has ms' m h in record { seat = kept.seats i.0 m i.1; none = done i.0 m i.1 };
    every = (still_all kept.seats kept.lanes).every;
  }

module _ (b : Board) (n : ℕ) (seats : List LaneSeat) (js : List Job) (all : AreAllSeats (table_of b) (recording_of b) seats) (jobs : AreJobs n seats js) where
  is_seat : (m : LaneSeat) → Has m seats → IsSeatOf (recording_of b) (table_of b) m
  is_seat m h = let i = elem_has seats m h in all.seats i.0 m i.1

  pub are_jobs : IsBoard b → All (IsJob b) js
  are_jobs board = all_from_has (IsJob b) js (λ j h. record { board = board; seats = λ k m e. is_seat m (jobs.own j m h (has_elem j.seats.items k m e)).0 })

  module _ (vs : List (Vec LaneSeat Global)) (ms : List LaneSeat) (long : length vs ≡ length js) (handed : AllHandedBack b js vs) (gathered : AreGathered vs [] ms) where
    -- the seats of each job came back
    gathered_seats : AreSeatsOf (table_of b) (recording_of b) ms
    gathered_seats k m e =
        let q = gathered.each m (has_elem ms k m e) in
        let p = at_has vs q.0 q.1 in
        let lt : p.0 < length js = omega (arith, p.1, long) in
        let j = has js p.0 lt in
        let h : IsHandedBack (table_of b) (recording_of b) (get_or js p.0 j.0).seats.items (get_or vs p.0 q.0).items = handed p.0 j.0 q.0 lt in
        let i = elem_has q.0.items m q.2 in
        subst (λ (v : Vec LaneSeat Global). AreSeatsOf (table_of b) (recording_of b) v.items) p.2 h.seats i.0 m i.1

    came_back : (j : Job) (m : LaneSeat) → Has j js → Has m j.seats.items → (m' : LaneSeat) × Has m' ms × (m'.lane ≡ m.lane)
    came_back j m hj hm =
        let p = at_has js j hj in
        let v = has vs p.0 (omega (arith, p.1, long)) in
        let h : IsHandedBack (table_of b) (recording_of b) (get_or js p.0 j).seats.items (get_or vs p.0 v.0).items = handed p.0 j v.0 p.1 in
        let lanes_are : map lane_of v.0.items ≡ map lane_of j.seats.items =
        subst (λ (x : Job × Vec LaneSeat Global). map lane_of x.1.items ≡ map lane_of x.0.seats.items) (λ i. (p.2 i, gets vs p.0 v.0 v.1 i)) h.lanes in
        let q = same_lane j.seats.items v.0.items m lanes_are hm in
        let there : Has q.0 ms = ⊎_elim (λ (l : Has v.0 []). absurd l) (λ (l : Has q.0 ms). l) (gathered.every v.0 q.0 (has_elem vs p.0 v.0 v.1) q.1) in
        (q.0, there, q.2)

    pub all_back : AreAllSeats (table_of b) (recording_of b) ms
    all_back = record {
      seats = gathered_seats;
      every = λ lane lt.
          let s = all.every lane lt in
          let j = jobs.every s.0 s.1 in
          let q = came_back j.0 s.0 j.1 j.2 in
          (q.0, q.1, q.2 ∙ s.2);
    }
