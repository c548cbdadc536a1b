-- Messages that are sent one after the other.
use Rattle.rex_world.proofs.Common.{◌≡◌, ℕ, suc, refl, ◌+◌, ◌<◌, Bool, false, List, [], ◌∷◌, ◌++◌, length, map, take, sym, ◌∙◌, ap, subst, arith, append_assoc, length-append, add-one, replicate, slice_index_or, take-suc, map-append, length-map, All-append, Effect, Said, HasSpelling, spelling_of, kind_of, Value, sent_from, Says, content_in, message_in, Sends}
use Rattle.std.proofs.lemmas.List.{replicate-append-replicate}
use Rattle.rex_report.specs.declared.effect.Effect.TheVariants.{Sent}
use Rattle.rex_msg.specs.declared.message.Content.TheVariants as says
use Rattle.rex_cluster.proofs.Handing.{sent_both}

-- what is told of messages is the same beside every past
same_kind : (past : List Value) (c : Says) → kind_of (content_in past c) ≡ kind_of (content_in [] c)
same_kind past (says.Prepare b i) = refl
same_kind past (says.Promise b ps) = refl
same_kind past (says.Accept b i v) = refl
same_kind past (says.Accepted b i) = refl
same_kind past (says.Chosen i v) = refl
same_kind past (says.Nack b p) = refl
same_kind past (says.Ask i) = refl
same_kind past (says.Snapshot k bytes) = refl

pub sent_alike : (past : List Value) (number : ℕ) (ms : List Said) → sent_from number (map (message_in []) ms) ≡ sent_from number (map (message_in past) ms)
sent_alike past number [] = refl
sent_alike past number (m ∷ ms) =
    ap (λ es. Sent number (kind_of (content_in [] m.content)) m.from m.to ∷ es) (sent_alike past _ ms)
    ∙ ap (λ k. Sent number k m.from m.to ∷ sent_from (suc number) (map (message_in past) ms)) (sym (same_kind past m.content))

pub kind_alike : (past : List Value) (c : Says) → kind_of (content_in [] c) ≡ kind_of (content_in past c)
kind_alike past c = sym (same_kind past c)

pub sends_more : {xs ys : List Said} {net net1 net2 : List (List ℕ)} {handed handed1 handed2 : List Bool} {sent sent1 sent2 : List Effect}
    → Sends xs net net1 handed handed1 sent sent1 → Sends ys net1 net2 handed1 handed2 sent1 sent2 → Sends (xs ++ ys) net net2 handed handed2 sent sent2
sends_more {xs} {ys} {net} {net1} {handed} {sent} a b = record {
  spelled = All-append HasSpelling xs ys a.spelled b.spelled;
  net = b.net ∙ ap (λ ns. ns ++ map spelling_of ys) a.net ∙ append_assoc net (map spelling_of xs) (map spelling_of ys) ∙ ap (λ ns. net ++ ns) (sym (map-append spelling_of xs ys));
  handed = b.handed ∙ ap (λ hs. hs ++ replicate (length ys) false) a.handed ∙ append_assoc handed (replicate (length xs) false) (replicate (length ys) false)
      ∙ ap (λ hs. handed ++ hs) (replicate-append-replicate (length xs) (length ys) false ∙ ap (λ k. replicate k false) (sym (length-append xs ys)));
  sent = b.sent ∙ ap (λ es. es ++ sent_from (suc (length net1)) (map (message_in []) ys)) a.sent ∙ append_assoc sent (sent_from (suc (length net)) (map (message_in []) xs)) (sent_from (suc (length net1)) (map (message_in []) ys))
      ∙ ap (λ es. sent ++ es)
      (ap (λ k. sent_from (suc (length net)) (map (message_in []) xs) ++ sent_from k (map (message_in []) ys)) next ∙ sym (sent_both _ _ _) ∙ ap (λ ms. sent_from (suc (length net)) ms) (sym (map-append (message_in []) xs ys)));
}
  where
    next : suc (length net1) ≡ suc (length net) + length (map (message_in []) xs)
    next = omega (arith, ap length a.net, length-append net (map spelling_of xs), length-map xs spelling_of, length-map xs (message_in []))

-- the messages so far, and one more
pub sends_next : (xs : List Said) {i : ℕ} {x : Said} (d : Said) {net net1 net2 : List (List ℕ)} {handed handed1 handed2 : List Bool} {sent sent1 sent2 : List Effect} → i < length xs → x ≡ slice_index_or xs i d
    → Sends (take i xs) net net1 handed handed1 sent sent1 → Sends (x ∷ []) net1 net2 handed1 handed2 sent1 sent2 → Sends (take (i + 1) xs) net net2 handed handed2 sent sent2
sends_next xs {i} {x} d {net} {net1} {net2} {handed} {handed1} {handed2} {sent} {sent1} {sent2} l e a b =
    let t : take (i + 1) xs ≡ take i xs ++ x ∷ [] = ap (λ k. take k xs) (add-one i) ∙ take-suc xs i d l ∙ ap (λ y. take i xs ++ y ∷ []) (sym e) in
    subst (λ ys. Sends ys net net2 handed handed2 sent sent2) (sym t) (sends_more a b)
