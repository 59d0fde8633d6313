-- Rows that pass a test by their tag stand together where 01's "tags never fall" holds; one pass finds between which rows each tag stands, in every table.
use Rattle.std.specs.Prelude.{ℕ, zero, suc, ◌+◌, ◌*◌, ◌≤◌, ◌≡◌, Bool, ◌&&◌, List, eqb, length, get_or, set}
use Rattle.lists.specs.Choice.{pick}
use Rattle.table.specs.Names.{becomes_equal_tag, variant_tag}
use Rattle.table.specs.Rows.{Rows, tagged, is_action}
use Rattle.scan.specs.declared.Span.{Span}
use Rattle.scan.specs.declared.Query.TheVariants.{Assigns}
use Rattle.scan.specs.Query.{passes_of}

-- one more than the last number below n that passes, or 0
unfoldable pub span_to : (ℕ → Bool) → ℕ → ℕ
span_to P zero = 0
span_to P (suc n) = pick (P n) (suc n) (span_to P n)

-- the first number below n that passes, or 0
unfoldable pub span_from : (ℕ → Bool) → ℕ → ℕ
span_from P zero = 0
span_from P (suc n) = pick (P n && eqb (span_to P n) 0) n (span_from P n)

-- the rows of a tag; 51 stands for 51 and 52, the actions: "128 together"
abbrev pub of_tag : Rows → ℕ → ℕ → Bool
of_tag t k i = pick (eqb k becomes_equal_tag) (is_action t i) (tagged t k i)

-- the rows between which those of a tag stand
abbrev pub tag_span : Rows → ℕ → Span
tag_span t k = record { from = span_from (of_tag t k) t.size; to = span_to (of_tag t k) t.size }

-- 01, the table of rows: "most rows"
abbrev pub event_limit : ℕ
event_limit = 32

abbrev pub identifier_limit : ℕ
identifier_limit = 64

-- two numbers for each tag up to the highest; behind them one for each event and identifier up to their limits, for the event's action; then three for each
-- node and one for each event up to their limits
abbrev pub action_at : ℕ → ℕ → ℕ
action_at e x = 142 + (65 * e + x)

abbrev pub nodes_at : ℕ
nodes_at = 2287

abbrev pub events_at : ℕ
events_at = 3826

abbrev pub span_words : ℕ
span_words = 3859

-- a list holds the spans of all tags among the first n rows: from and to of the tag k at 2 × k and 2 × k + 1
pub record SpannedTo (t : Rows) (n : ℕ) (spans : List ℕ) : Type 0 where
  pub size : length spans ≡ span_words
  pub starts : (k : ℕ) → k ≤ variant_tag → get_or spans (2 * k) 0 ≡ span_from (of_tag t k) n
  pub ends : (k : ℕ) → k ≤ variant_tag → get_or spans (2 * k + 1) 0 ≡ span_to (of_tag t k) n

-- one more than the first number below n that passes, or 0
unfoldable pub first_noted : (ℕ → Bool) → ℕ → ℕ
first_noted P zero = 0
first_noted P (suc n) = pick (P n && eqb (first_noted P n) 0) (suc n) (first_noted P n)

-- a list holds the first of the first n rows that is an action of an event for an identifier, for all up to the limits
abbrev pub ActionsTo : Rows → ℕ → List ℕ → Type 0
ActionsTo t n spans = (e x : ℕ) → e ≤ event_limit → x ≤ identifier_limit → get_or spans (action_at e x) 0 ≡ first_noted (passes_of t (Assigns e x)) n

-- among all rows: what is looked for once
pub record Spanned (t : Rows) (spans : List ℕ) : Type 0 where
  pub tags : SpannedTo t t.size spans
  pub actions : ActionsTo t t.size spans

-- with the row i, an action of an event for an identifier
abbrev pub action_noted : List ℕ → ℕ → ℕ → ℕ → List ℕ
action_noted spans e x i = let k = get_or spans (action_at e x) 0 in set spans (action_at e x) (pick (eqb k 0) (i + 1) k)

-- with the row i of a tag: from where the tag's span starts at it, and to
abbrev pub noted : List ℕ → ℕ → ℕ → List ℕ
noted spans k i = set (set spans (2 * k) (pick (eqb (get_or spans (2 * k + 1) 0) 0) i (get_or spans (2 * k) 0))) (2 * k + 1) (i + 1)
