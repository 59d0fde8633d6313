-- 01, Rows: the table of tags: which of the columns a, b, c a tag uses, and how many rows it may have.
use Rattle.std.specs.Prelude.{ℕ, List, [], ◌∷◌, eqb}
use Rattle.lists.specs.Choice.{pick}
use Rattle.table.specs.Names.{abstract_invariant_tag, axiom_tag, becomes_equal_tag, becomes_such_tag, concrete_invariant_tag, event_tag}
use Rattle.table.specs.Names.{guard_tag, identifier_tag, node_tag, variant_tag, witness_tag}

pub record Tag : Type 0 where
  pub tag : ℕ
  pub columns : ℕ
  pub most : ℕ

abbrev is : ℕ → ℕ → ℕ → Tag
is t c m = record { tag = t; columns = c; most = m }

-- 10 identifier, 20 node, 30 axiom, 31 abstract invariant, 32 concrete invariant, 40 event, 50 guard, 51 becomes equal and 52 becomes such
-- that ("128 together"), 60 witness, 70 variant
abbrev pub tags : List Tag
tags =
    is identifier_tag 3 64 ∷ is node_tag 3 512 ∷ is axiom_tag 1 16 ∷ is abstract_invariant_tag 1 16 ∷ is concrete_invariant_tag 1 16 ∷ is event_tag 3 32 ∷ is guard_tag 2 64 ∷ is becomes_equal_tag 3 128 ∷ is becomes_such_tag 3 128 ∷ is witness_tag 3 128 ∷ is variant_tag 1 1 ∷ []

-- an unknown tag uses no column and has no row
abbrev pub tag_numbered : List Tag → ℕ → Tag
tag_numbered [] n = is n 0 0
tag_numbered (t ∷ ts) n = pick (eqb t.tag n) t (tag_numbered ts n)

unfoldable pub columns_used : ℕ → ℕ
columns_used n = (tag_numbered tags n).columns

unfoldable pub row_limit : ℕ → ℕ
row_limit n = (tag_numbered tags n).most
