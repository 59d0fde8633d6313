use Prim.Native.Nat.{◌<◌, ◌+◌, ◌*◌}
use mathlib.Core.Path.{◌≡◌, ap, sym, ◌∙◌}
use mathlib.Core.List.{◌++◌}
use native.Mathlib.Omega.{arith}
use native.Mathlib.Nat.{sub-zero}
use lib.ListN.{length, length-append}
use Rattle.lists.specs.Over.{over}
use Rattle.lists.specs.Below.{first}
use Rattle.lists.proofs.First.{first_next}
use Rattle.lists.proofs.Over.{over_none, over_tail}
use Rattle.rules.specs.Decoded.{line_of, not_row}
use Rattle.decode.specs.Decode.{four, words_to}
use Rattle.decode.proofs.Words.{read_row, words_none, words_more, next_line, is_next, words_four, stops_at, none_bad, reply_all}
use Rattle.decode.proofs.decode.Goals as goal

pub loop-i-init : goal.loop-i-init
loop-i-init c =
    let a = c.args in (
      c.start-place.ensures,
      ap length (words_none a.bytes.now),
      over_none a.words.now ∙ ap (λ ws. over ws a.words.now) (sym (words_none a.bytes.now)),
      ap (λ n. first (λ i. not_row (line_of a.bytes.now i)) n 0) (sub-zero a.rows),
    )

pub returns-in-Malformed : goal.returns-in-Malformed
returns-in-Malformed c =
    let a = c.args in
    let both = stops_at a.bytes.now a.words.now c.loop-i.words a.rows c.loop-i.i c.loop-i.place.at c.read.result c.loop-i-test.true (omega arith) c.loop-i.invariant.0
    c.read.ensures (ap is_next c.in-Malformed.is) c.loop-i.invariant.3 c.loop-i.invariant.2 in
    record { value = both.0; words_after = both.1 }

pub returns-in-End : goal.returns-in-End
returns-in-End c =
    let a = c.args in
    let both = stops_at a.bytes.now a.words.now c.loop-i.words a.rows c.loop-i.i c.loop-i.place.at c.read.result c.loop-i-test.true (omega arith) c.loop-i.invariant.0
    c.read.ensures (ap is_next c.in-End.is) c.loop-i.invariant.3 c.loop-i.invariant.2 in
    record { value = both.0; words_after = both.1 }

pub loop-i-preserved : goal.loop-i-preserved
loop-i-preserved c =
    let a = c.args in
    let b = a.bytes.now in
    let i = c.loop-i.i in
    let h : i < a.rows = c.loop-i-test.true in
    let row = c.in-Next.row in
    let next = c.in-Next.next in
    let line = read_row b i c.loop-i.place.at c.loop-i.invariant.0 (omega arith) in
    let found = next_line (38 * i + 38) (line_of b i) row next (sym line ∙ sym c.read.ensures ∙ c.in-Next.is) in
    let good = words_four (line_of b i) row found.0 in
    let more : words_to b (i + 1) ≡ words_to b i ++ four row = words_more b i ∙ ap (λ ws. words_to b i ++ ws) good.0 in
    let size : length (words_to b (i + 1)) ≡ 4 * (i + 1) = ap length more ∙ length-append (words_to b i) (four row) ∙ omega (arith, c.loop-i.invariant.1) in
    let put = over_tail (words_to b i) (four row) a.words.now c.loop-i.words c.store.new.words (4 * i)
    c.loop-i.invariant.1 c.loop-i.invariant.2 c.store.ensures ∙ ap (λ ws. over ws a.words.now) (sym more) in (
      found.1 ∙ omega arith,
      size,
      put,
      sym (first_next (λ i. not_row (line_of b i)) a.rows i h good.1) ∙ c.loop-i.invariant.3,
    )

pub returns : goal.returns
returns c =
    let a = c.args in
    let b = a.bytes.now in
    let all = none_bad b a.rows c.loop-i.i c.loop-i-test.false (omega arith) c.loop-i.invariant.3 in
    record {
      value = reply_all b a.rows all;
      words_after = c.loop-i.invariant.2 ∙ ap (λ n. over (words_to b n) a.words.now) (let e : c.loop-i.i ≡ a.rows = omega arith in e ∙ sym all);
    }
