-- By the two tests of the frame; then what decoding says (Filled).
use mathlib.Core.Path.{ap, ◌∙◌}
use native.Mathlib.Omega.{arith}
use Rattle.verdict.specs.Loaded.{end_row, loaded_rows}
use Rattle.verdict.proofs.Filled.{too_long, torn, whole, decoded_row, refused_frame, passed_frame}
use Rattle.verdict.proofs.load.Goals as goal

pub returns-then-bytes-gt-BYTES : goal.returns-then-bytes-gt-BYTES
returns-then-bytes-gt-BYTES c =
    let b = c.args.bytes.now in
    let both = refused_frame b (too_long b (omega (arith, c.if-bytes-gt-BYTES.true))) _ in
    record { value = both.0; words_after = both.1 }

pub returns-then-bytes-ne0 : goal.returns-then-bytes-ne0
returns-then-bytes-ne0 c =
    let b = c.args.bytes.now in
    let both = refused_frame b (torn b c.if-bytes-ne0.true) _ in
    record { value = both.0; words_after = both.1 }

pub after_decoding-requires : goal.after_decoding-requires
after_decoding-requires c =
    let b = c.args.bytes.now in
    omega (arith, ap end_row c.decode.ensures.value, decoded_row b, c.if-bytes-gt-BYTES.false)

pub returns : goal.returns
returns c =
    let b = c.args.bytes.now in
    let passed = passed_frame b (whole b (omega (arith, c.if-bytes-gt-BYTES.false)) c.if-bytes-ne0.false) c.args.words.now _ c.decode.ensures.words_after in
    record {
      value = c.after_decoding.ensures ∙ ap loaded_rows c.decode.ensures.value ∙ passed.0;
      words_after = passed.1;
    }
