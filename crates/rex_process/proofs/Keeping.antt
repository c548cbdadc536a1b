-- Steps that lead from one keeper to another.
use Rattle.std.proofs.Common.{◌≡◌, ℕ, List, [], ◌∷◌, ◌++◌, inl, inr, refl, sym, subst, ◌∙◌}
use Rattle.rex_traits.specs.Chains.{Answer}
use Rattle.rex_process.specs.Keeping.{ByAppends, ByAppendsAndFlushes, IsAppend, IsAppendOrFlush, Leads, LeadsThrough}

module _ {K : Type 0} (Step : K → K → Type 0) where
  -- none
  pub leads_same : (old new : K) → new ≡ old → Leads Step old new
  leads_same old new same = record { through = []; steps = same }

  -- one
  pub leads_one : (old new : K) → Step old new → Leads Step old new
  leads_one old new step = record { through = new ∷ []; steps = (step, refl) }

  through_join : (old between new : K) (first later : List K) → LeadsThrough Step old first between → LeadsThrough Step between later new → LeadsThrough Step old (first ++ later) new
  through_join old between new [] later same t = subst (λ k. LeadsThrough Step k later new) same t
  through_join old between new (next ∷ rest) later s t = (s.0, through_join next between new rest later s.1 t)

  -- some, and more behind them
  pub leads_join : (old between new : K) → Leads Step old between → Leads Step between new → Leads Step old new
  leads_join old between new h k = record { through = h.through ++ k.through; steps = through_join old between new h.through k.through h.steps k.steps }

  through_keep : (P : K → Type 0) → ((old new : K) → Step old new → P old → P new) → (old new : K) (through : List K) → LeadsThrough Step old through new → P old → P new
  through_keep P keeps old new [] same p = subst P (sym same) p
  through_keep P keeps old new (next ∷ later) s p = through_keep P keeps next new later s.1 (keeps old next s.0 p)

  -- what each step keeps is kept
  pub leads_keep : (P : K → Type 0) → ((old new : K) → Step old new → P old → P new) → (old new : K) → Leads Step old new → P old → P new
  leads_keep P keeps old new h p = through_keep P keeps old new h.through h.steps p

-- steps of one kind are some of another, of what is below
pub leads_below : {J K : Type 0} (Step : J → J → Type 0) (Other : K → K → Type 0) (below : J → K) → ((old new : J) → Step old new → Leads Other (below old) (below new)) → (old new : J) → Leads Step old new → Leads Other (below old) (below new)
leads_below {J} Step Other below each old new h =
    leads_keep Step (λ k. Leads Other (below old) (below k)) (λ a b s p. leads_join Other (below old) (below a) (below b) p (each a b s)) old new h (leads_same Other (below old) (below old) refl)

-- ---- appends and flushes

module _ {K : Type 0} (gives : K → List ℕ → Answer → K → Type 0) where
  -- appends keep nothing for good, where each one waits
  pub appends_wait : (kept : K → List (List ℕ)) → ((old new : K) (bytes : List ℕ) (answer : Answer) → gives old bytes answer new → kept new ≡ kept old) → (old new : K) → ByAppends gives old new → kept new ≡ kept old
  appends_wait kept waits old new h = leads_keep (IsAppend gives) (λ k. kept k ≡ kept old) (λ a b s p. waits a b s.bytes s.answer s.appended ∙ p) old new h refl

  module _ (flush_gives : K → Answer → K → Type 0) where
    -- none of them
    pub nothing_done : (old new : K) → new ≡ old → ByAppendsAndFlushes gives flush_gives old new
    nothing_done = leads_same (IsAppendOrFlush gives flush_gives)

    -- appends
    pub appends_done : (old new : K) → ByAppends gives old new → ByAppendsAndFlushes gives flush_gives old new
    appends_done old new h = leads_below (IsAppend gives) (IsAppendOrFlush gives flush_gives) (λ k. k) (λ a b s. leads_one (IsAppendOrFlush gives flush_gives) a b (inl s)) old new h

    -- a flush
    pub flush_done : (old new : K) (answer : Answer) → flush_gives old answer new → ByAppendsAndFlushes gives flush_gives old new
    flush_done old new answer flushed = leads_one (IsAppendOrFlush gives flush_gives) old new (inr (record { answer = answer; flushed = flushed }))

    -- some, and more behind them
    pub more_done : (old between new : K) → ByAppendsAndFlushes gives flush_gives old between → ByAppendsAndFlushes gives flush_gives between new → ByAppendsAndFlushes gives flush_gives old new
    more_done = leads_join (IsAppendOrFlush gives flush_gives)
