-- By the row of each operator.
use Rattle.signed.specs.Found.{found_of, answer_of}
use Rattle.evaluate.specs.Evaluate.{combined}
use Rattle.evaluate.proofs.Numbered.{numbered_at, combined_behind}
use Rattle.evaluate.proofs.combine.Goals as goal

pub returns-in-6 : goal.returns-in-6
returns-in-6 c =
    let a = c.args in
    numbered_at (λ o. found_of (combined o (answer_of a.left) (answer_of a.right))) 6 c.in-6.is c.bool_answer.ensures

pub returns-in-10 : goal.returns-in-10
returns-in-10 c =
    let a = c.args in
    numbered_at (λ o. found_of (combined o (answer_of a.left) (answer_of a.right))) 10 c.in-10.is c.plus_answer.ensures

pub returns-in-11 : goal.returns-in-11
returns-in-11 c =
    let a = c.args in
    numbered_at (λ o. found_of (combined o (answer_of a.left) (answer_of a.right))) 11 c.in-11.is c.minus_answer.ensures

pub returns-in-12 : goal.returns-in-12
returns-in-12 c =
    let a = c.args in
    numbered_at (λ o. found_of (combined o (answer_of a.left) (answer_of a.right))) 12 c.in-12.is c.times_answer.ensures

pub returns-in-13 : goal.returns-in-13
returns-in-13 c =
    let a = c.args in
    numbered_at (λ o. found_of (combined o (answer_of a.left) (answer_of a.right))) 13 c.in-13.is c.quotient_answer.ensures

pub returns-in-14 : goal.returns-in-14
returns-in-14 c =
    let a = c.args in
    numbered_at (λ o. found_of (combined o (answer_of a.left) (answer_of a.right))) 14 c.in-14.is c.remainder_answer.ensures

pub returns-in-15 : goal.returns-in-15
returns-in-15 c =
    let a = c.args in
    numbered_at (λ o. found_of (combined o (answer_of a.left) (answer_of a.right))) 15 c.in-15.is c.negation_answer.ensures

pub returns-in-20 : goal.returns-in-20
returns-in-20 c =
    let a = c.args in
    numbered_at (λ o. found_of (combined o (answer_of a.left) (answer_of a.right))) 20 c.in-20.is c.equal_answer.ensures

pub returns-in-21 : goal.returns-in-21
returns-in-21 c =
    let a = c.args in
    numbered_at (λ o. found_of (combined o (answer_of a.left) (answer_of a.right))) 21 c.in-21.is c.less_answer.ensures

pub returns-in-22 : goal.returns-in-22
returns-in-22 c =
    let a = c.args in
    numbered_at (λ o. found_of (combined o (answer_of a.left) (answer_of a.right))) 22 c.in-22.is c.at_most_answer.ensures

pub returns-in-32 : goal.returns-in-32
returns-in-32 c =
    let a = c.args in
    numbered_at (λ o. found_of (combined o (answer_of a.left) (answer_of a.right))) 32 c.in-32.is c.not_answer.ensures

pub returns-in-33 : goal.returns-in-33
returns-in-33 c =
    let a = c.args in
    numbered_at (λ o. found_of (combined o (answer_of a.left) (answer_of a.right))) 33 c.in-33.is c.and_answer.ensures

pub returns-in-34 : goal.returns-in-34
returns-in-34 c =
    let a = c.args in
    numbered_at (λ o. found_of (combined o (answer_of a.left) (answer_of a.right))) 34 c.in-34.is c.or_answer.ensures

pub returns-in-35 : goal.returns-in-35
returns-in-35 c =
    let a = c.args in
    numbered_at (λ o. found_of (combined o (answer_of a.left) (answer_of a.right))) 35 c.in-35.is c.implies_answer.ensures

pub returns-in-36 : goal.returns-in-36
returns-in-36 c =
    let a = c.args in
    numbered_at (λ o. found_of (combined o (answer_of a.left) (answer_of a.right))) 36 c.in-36.is c.iff_answer.ensures

pub returns-in_default : goal.returns-in_default
returns-in_default c =
    let a = c.args in
    combined_behind a.operator (answer_of a.left) (answer_of a.right) c.in_default.in_default-own.rest
