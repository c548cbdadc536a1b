-- Replies are released by nodes that are up and active, and there stays a number for each client.
use Rattle.rex_world.proofs.Common.{◌≡◌, ℕ, zero, suc, ◌<◌, true, List, [], ◌∷◌, length, get_or, Option, Some, None, refl, sym, subst, ◌∙◌, inl, inr, arith, length-set, slice_get, slice_index_or, All, Request, Declarations, IsService, IsChecked, RequestFits, Effect, StateValue, Version, Content, Service, is_active, ask, begin, checkpoint, elect, receive, replay, start, stop, Value, service_of, Here, CallHere, active_only, cut, submit_request, seen_by_release, seen_by_releases, IsAmong, AreReleased}
use Rattle.rex_cluster.specs.Calls.{drop_known}
use Rattle.std.proofs.Common.{max}
use Rattle.std.proofs.lemmas.Bool.{false≢true}
use Rattle.rex_cluster.specs.Lanes.{lane_turn}
use Rattle.rex_cluster.proofs.Saying.{quiet_none, start_quiet, elect_says, receive_says, replay_says, checkpoint_says, drop_says, stop_says}
use Rattle.rex_cluster.proofs.Replies.{SaysHere, StandsIn, replies_stand, quietly, submit_says, turn_says, cut_tells}
use Rattle.rex_safety.proofs.Staying.{active_up, checkpoint_up, cut_up, drop_up, elect_up, receive_up, replay_up, submit_up}

-- ---- numbers of clients

release_long : (stamp : ℕ → ℕ) (o : Option ℕ) (seen : List ℕ) → length (seen_by_release stamp o seen) ≡ length seen
release_long stamp None seen = refl
release_long stamp (Some client) seen = length-set seen client (max (get_or seen client 0) (stamp client))

pub releases_long : (stamp : ℕ → ℕ) (es : List Effect) (seen : List ℕ) → length (seen_by_releases stamp es seen) ≡ length seen
releases_long stamp [] seen = refl
releases_long stamp (e ∷ es) seen = releases_long stamp es _ ∙ release_long stamp _ seen

-- ---- effects one after the other

-- one among them was released as all were
pub one_released : {x : Here} {es : List Effect} {i : ℕ} {e : Effect} (d : Effect) → i < length es → e ≡ slice_index_or es i d → AreReleased x es → AreReleased x (e ∷ [])
one_released {es} {i} d l is h = record { leads = λ c s v. elim [ inl y ↦ h.leads c s v (subst (λ f. IsAmong f es) (sym is ∙ y) (at es i l)) | inr y ↦ absurd y ] }
  where
    at : (xs : List Effect) (k : ℕ) → k < length xs → IsAmong (slice_index_or xs k d) xs
    at [] k m = absurd (omega (arith, m))
    at (y ∷ ys) zero m = inl refl
    at (y ∷ ys) (suc k) m = inr (at ys k (omega (arith, m)))

-- ---- calls

-- where the node is active it is up
abbrev UpIfActive : CallHere → Type 0
UpIfActive d = is_active d.node.role ≡ true → d.node.up ≡ true

module _ {service : Declarations} (good : IsService service) (checked : IsChecked service) (seed n me : ℕ) where
  abbrev sv : Service Value StateValue
  sv = service_of service seed

  -- what a call says that it released was released by an active node
  by_active : {d : CallHere} → SaysHere service good checked seed n me d → UpIfActive d → AreReleased d.node d.effects
  by_active says up = record { leads = λ c s x h. let active = (says.each c s x h).0 in (up active, active) }

  -- each call of a node that is up releases replies where the node is up and active after it, and nowhere else
  abbrev pub Releases : (CallHere → CallHere) → Type 0
  Releases call = (x : Here) → x.up ≡ true → AreReleased (call (begin x)).node (call (begin x)).effects

  pub elect_releases : Releases (elect n (service_of service seed) me)
  elect_releases x up = by_active (elect_says n sv me _ (replies_stand service good checked) (begin x) quiet_none) (elect_up n sv me (begin x) up).at

  pub receive_releases : (from : ℕ) (content : Content Value) → Releases (receive n (service_of service seed) me from content)
  receive_releases from content x up = by_active (receive_says n sv me _ (replies_stand service good checked) from content (begin x) quiet_none) (receive_up n sv me from content (begin x) up).at

  pub submit_releases : (requests : List Request) → All (RequestFits service) requests → (number : ℕ) → Releases (λ d. active_only (is_active d.node.role) d (submit_request service (slice_get requests number) d))
  submit_releases requests fit number x up =
      by_active (submit_says service good checked seed n me requests fit number (begin x) quiet_none)
      (active_up service seed n me _ (begin x) _ up (submit_up service seed n me _ (begin x) up)).at

  pub lane_releases : (done lane : ℕ) → Releases (λ d. active_only (is_active d.node.role) d (lane_turn service done lane d))
  lane_releases done lane x up =
      by_active (turn_says service good checked seed n me done lane (begin x) quiet_none)
      (active_up service seed n me _ (begin x) (lane_turn service done lane (begin x)) up (record { at = λ active. up })).at

  pub cut_releases : (counts : List ℕ) → Releases (cut service seed n me counts)
  cut_releases counts x up = by_active (cut_tells service good checked seed n me counts (begin x) quiet_none) (cut_up service seed n me counts (begin x) up).at

  pub replay_releases : Releases (replay me)
  replay_releases x up = by_active (replay_says n sv me _ (replies_stand service good checked) (begin x) quiet_none) (replay_up me (begin x) up).at

  pub checkpoint_releases : (version : Version) → Releases (checkpoint version (service_of service seed) me)
  checkpoint_releases version x up =
      by_active (checkpoint_says n sv me (StandsIn service good checked) (replies_stand service good checked) version (begin x) quiet_none)
      (checkpoint_up version sv me (begin x) up).at

  pub drop_releases : Releases (drop_known me)
  drop_releases x up =
      by_active (drop_says n sv me _ (replies_stand service good checked) (begin x) quiet_none) (drop_up me (begin x) up).at

  pub ask_releases : (other : ℕ) → Releases (ask me other)
  ask_releases other x up = by_active (quietly service good checked seed n me (ask me other (begin x)) quiet_none) (λ active. up)

  pub stop_releases : Releases (stop me)
  stop_releases x up = by_active (stop_says n sv me _ (replies_stand service good checked) (begin x) quiet_none) (λ active. absurd (false≢true active))

  -- a node that is started releases none
  pub start_releases : (x y : Here) → AreReleased y (start (service_of service seed) me (begin x)).effects
  start_releases x y = record { leads = λ c s v h. absurd (start_quiet sv me (begin x) quiet_none c s v h) }
