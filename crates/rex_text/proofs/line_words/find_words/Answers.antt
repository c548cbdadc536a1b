use Rattle.std.proofs.Common.{◌≡◌, ◌<◌, ◌≤◌, ℕ, true, false, List, get_or, length, refl, arith, sym, ◌∙◌}
use Rattle.std.proofs.lemmas.Bool.{ne_eqb}
use Rattle.rex_text.specs.Text.{is_blank}
use Rattle.rex_text.proofs.Found.{all_found, last_word, more_found, none_more, word_ends}
use Rattle.rex_text.proofs.line_words.find_words.Goals.{then-byte-le32+then-is_blank+in_ok-end_word, else-byte-le32}
use Rattle.rex_text.proofs.line_words.find_words.Goals.{else-byte-le32-via-then-byte-le32+else-is_blank, else-byte-le32-via-else-byte-le32}
use Rattle.rex_text.proofs.line_words.find_words.Goals as goal

above_space : (byte : ℕ) → 32 < byte → is_blank byte ≡ false
above_space byte lt = rw (ne_eqb byte 32 (λ e. omega arith), ne_eqb byte 9 (λ e. omega arith)) refl

pub loop-at-preserved : goal.loop-at-preserved
loop-at-preserved c =
    let line : List ℕ = c.args.line.now in
    let l = c.loop-at in
    elim c.if-byte-le32.branch [
      | then-byte-le32+then-is_blank+in_ok-end_word w ↦
          let blank : is_blank (get_or line l.at 0) ≡ true = sym w.is_blank.ensures ∙ w.if-is_blank.true in
          let ended = word_ends is_blank line l.start l.at l.invariant.order c.loop-at-test.true l.invariant.plain blank in
          rw (w.found-is, w.start-is) (record {
            words = more_found _ _ _ _ _ _ w.in_ok-end_word.ensures l.invariant.words ended;
            order = omega arith;
            plain = λ k low high. absurd (omega arith);
          })
      | else-byte-le32 w ↦
          let plain : is_blank (get_or line l.at 0) ≡ false = elim w.else-byte-le32.branch [
            | else-byte-le32-via-then-byte-le32+else-is_blank w' ↦ sym w'.is_blank.ensures ∙ w'.if-is_blank.false
            | else-byte-le32-via-else-byte-le32 w' ↦ above_space (get_or line l.at 0) w'.if-byte-le32.false
          ] in
          rw (w.found-is, w.start-is) (record {
            words = l.invariant.words;
            order = omega (arith, l.invariant.order);
            plain = none_more is_blank line l.start l.at l.invariant.plain plain;
          })
    ]

pub returns : goal.returns
returns c =
    let line : List ℕ = c.args.line.now in
    let l = c.loop-at in
    let end : l.at ≡ length line = omega (arith, c.loop-at-test.false, l.auto.at-end) in
    let order : l.start ≤ length line = omega (arith, l.invariant.order) in
    let last = last_word is_blank line l.start order (λ k low high. l.invariant.plain k low (omega arith)) in
    all_found c.end_word-2.result _ _ _ _ _ c.end_word-2.ensures l.invariant.words last
