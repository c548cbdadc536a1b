-- The least of the codes of a scenario that fit, over what they fit.
use Rattle.std.proofs.Common.{◌≡◌, ◌≤◌, ◌⊎◌, List, [], ◌∷◌, get_or, Option, Some, None, Bool, true, false, refl, sym, ap, ◌∙◌, arith, inl, inr}
use Rattle.std.specs.Bool.{Decides}
use Rattle.std.specs.List.{Any, list_any}
use Rattle.std.proofs.lemmas.List.Folds.{Any-from_list_any, list_any-from_Any}
use Rattle.rex_parse.specs.Words as words
use Rattle.rex_parse.specs.LeastCode.{IsLeastOf}
use Rattle.rex_parse.specs.declared.language.ServiceCode.{ServiceCode}
use Rattle.rex_parse.specs.declared.language.ServiceCode.TheVariants as service
use Rattle.rex_parse.proofs.WeighsBy.{WeighsBy, least_by}
use Rattle.rex_scenario.specs.Requests.{or_code}
use Rattle.rex_scenario.specs.Reading.{of_service}
use Rattle.rex_scenario.specs.LeastCode.{rank}
use Rattle.rex_scenario.specs.declared.scenario.ScenarioCode.{ScenarioCode}
use Rattle.rex_scenario.specs.declared.scenario.ScenarioCode.TheVariants.{Service, TooLong, BadByte, OutOfPlace, BadHeading, BadRequest, BadCall, Repeated, BadLine, TooManyLines, NotThere, TooManyRequests, WrongLimits, NoOldForm}

-- what is answered is the least of these codes, or none where there is none
abbrev pub Weighs : (ScenarioCode → Type 0) → Option ScenarioCode → Type 0
Weighs P o = WeighsBy rank P o

-- the first code, or else the second, where those of the first come first
pub weighs_first : (P Q : ScenarioCode → Type 0) (x y : Option ScenarioCode) → ((c d : ScenarioCode) → P c → Q d → rank c ≤ rank d) → Weighs P x → Weighs Q y → Weighs (λ c. P c ⊎ Q c) (or_code x y)
weighs_first P Q (Some a) y first p q = (inl p.0, λ d h. elim h [ inl u ↦ p.1 d u | inr v ↦ first a d p.0 v ])
weighs_first P Q None None first p q = λ c h. elim h [ inl u ↦ p c u | inr v ↦ q c v ]
weighs_first P Q None (Some b) first p q = (inr q.0, λ d h. elim h [ inl u ↦ absurd (p d u) | inr v ↦ q.1 d v ])

-- a code of the service is one of these
abbrev pub OfService : (ServiceCode → Type 0) → ScenarioCode → Type 0
OfService P (Service c) = P c
OfService P _ = ⊥

pub weighs_service : (P : ServiceCode → Type 0) (o : Option ServiceCode) → WeighsBy words.rank P o → Weighs (OfService P) (of_service o)
weighs_service P None h = none P h
  where
    none : (R : ServiceCode → Type 0) → ((c : ServiceCode) → R c → ⊥) → (d : ScenarioCode) → OfService R d → ⊥
    none R f (Service c) p = f c p
    none R f _ p = p
weighs_service P (Some c) h = (h.0, least P c h.1)
  where
    least : (R : ServiceCode → Type 0) (b : ServiceCode) → ((d : ServiceCode) → R d → words.rank b ≤ words.rank d) → (d : ScenarioCode) → OfService R d → words.rank b ≤ rank d
    least R b f (Service d) p = f d p
    least R b f _ p = absurd p

-- ---- the answer

by_number : List ScenarioCode
by_number =
    TooLong ∷ Service service.BadByte ∷ Service service.Misplaced ∷ Service service.BadForm ∷ Service service.NoName ∷ Service service.NoNumber ∷ Service service.BadExpression ∷ Service service.Undeclared ∷ Service service.WrongKind ∷ Service service.Taken ∷ Service service.TooDeep ∷ Service service.TooMany ∷ Service service.LanesFirst ∷ Service service.ReplyInBlock ∷ Service service.Unended
    ∷ TooLong ∷ BadByte ∷ OutOfPlace ∷ BadHeading ∷ BadRequest ∷ BadCall ∷ Repeated ∷ BadLine ∷ TooManyLines ∷ NotThere ∷ TooManyRequests ∷ WrongLimits ∷ NoOldForm ∷ []

service_back : (c : ServiceCode) → get_or by_number (words.rank c) TooLong ≡ Service c
unfolding by_number
service_back service.BadByte = refl
service_back service.Misplaced = refl
service_back service.BadForm = refl
service_back service.NoName = refl
service_back service.NoNumber = refl
service_back service.BadExpression = refl
service_back service.Undeclared = refl
service_back service.WrongKind = refl
service_back service.Taken = refl
service_back service.TooDeep = refl
service_back service.TooMany = refl
service_back service.LanesFirst = refl
service_back service.ReplyInBlock = refl
service_back service.Unended = refl

back : (c : ScenarioCode) → get_or by_number (rank c) TooLong ≡ c
unfolding by_number
back (Service c) = service_back c
back TooLong = refl
back BadByte = refl
back OutOfPlace = refl
back BadHeading = refl
back BadRequest = refl
back BadCall = refl
back Repeated = refl
back BadLine = refl
back TooManyLines = refl
back NotThere = refl
back TooManyRequests = refl
back WrongLimits = refl
back NoOldForm = refl

-- two codes in one place are one
rank_is : (c d : ScenarioCode) → rank c ≡ rank d → c ≡ d
rank_is c d e = sym (back c) ∙ ap (λ n. get_or by_number n TooLong) e ∙ back d

-- what is weighed is the least
pub least_of : (P : ScenarioCode → Type 0) (o : Option ScenarioCode) → Weighs P o → IsLeastOf rank P o
least_of P o h = least_by rank rank_is P o h

-- P1 to P14 come first
pub service_rank : (c : ServiceCode) → words.rank c ≤ 14
service_rank service.BadByte = omega arith
service_rank _ = omega arith

-- ---- tests

pub clash : (b : Bool) → b ≡ true → b ≡ false → ⊥
clash b t f = let u : true ≡ false = sym t ∙ f in cc

any_more : {X : Type 0} (P Q : X → Type 0) (xs : List X) → ((x : X) → P x → Q x) → Any P xs → Any Q xs
any_more P Q xs to h = (h.0, h.1, h.2, h.3, to h.1 h.4)

-- a test of each tells whether one is there
pub any_test : {X : Type 0} (p : X → Bool) (P : X → Type 0) (xs : List X) → ((x : X) → Decides (p x) (P x)) → Decides (list_any p xs) (Any P xs)
any_test p P xs each =
    (λ e. any_more (λ x. p x ≡ true) P xs (λ x h. (each x).0 h) (Any-from_list_any p xs e), λ h. list_any-from_Any p xs (any_more P (λ x. p x ≡ true) xs (λ x k. (each x).1 k) h))
