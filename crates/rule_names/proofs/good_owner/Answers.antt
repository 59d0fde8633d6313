-- By the kind: an abstract parameter, a concrete one, another identifier.
use mathlib.Core.Path.{◌∙◌, sym, ap}
use lib.Dec.{eqb}
use Rattle.table.specs.Rows.{rows_of}
use Rattle.rules.specs.Rules.{owner_event}
use Rattle.rule_names.proofs.Names.{owner_abstract, owner_concrete, owner_none}
use Rattle.rule_names.proofs.good_owner.Goals as goal

pub returns-then-kind-eq-ABSTRACT_PARAMETER : goal.returns-then-kind-eq-ABSTRACT_PARAMETER
returns-then-kind-eq-ABSTRACT_PARAMETER c =
    let a = c.args in
    let t = rows_of a.table.now.words.now in
    c.owner_event.ensures ∙ ap (owner_event t 1) c.c_at-owner.ensures ∙ sym (owner_abstract t a.i (sym c.a_at-kind.ensures ∙ c.if-kind-eq-ABSTRACT_PARAMETER.true))

pub returns-then-kind-eq-CONCRETE_PARAMETER : goal.returns-then-kind-eq-CONCRETE_PARAMETER
returns-then-kind-eq-CONCRETE_PARAMETER c =
    let a = c.args in
    let t = rows_of a.table.now.words.now in
    c.owner_event-then-kind-eq-CONCRETE_PARAMETER.ensures ∙ ap (owner_event t 2) c.c_at-owner.ensures ∙ sym (owner_concrete t a.i (sym c.a_at-kind.ensures ∙ c.if-kind-eq-CONCRETE_PARAMETER.true))

pub returns : goal.returns
returns c =
    let a = c.args in
    let t = rows_of a.table.now.words.now in
    let kind = c.a_at-kind.ensures in
    ap (λ n. eqb n 0) c.c_at-owner.ensures
    ∙ sym (owner_none t a.i (λ e. c.if-kind-eq-ABSTRACT_PARAMETER.false (kind ∙ e)) (λ e. c.if-kind-eq-CONCRETE_PARAMETER.false (kind ∙ e)))
