-- A buffer of zeros has its length. It is said by a lemma, since it is too long to be counted.
use Rattle.std.proofs.Common.{ℕ, ◌≤◌, sym, subst, le_refl}
use Rattle.std.proofs.lemmas.List.{length-replicate}
use Rattle.obligations.proofs.main.Goals as goal

pub slice_bounds-print_table-end-2 : goal.slice_bounds-print_table-end-2
slice_bounds-print_table-end-2 c = sym (length-replicate {0} {A = ℕ} 524234 0)

pub print_table-requires : goal.print_table-requires
print_table-requires c = subst (λ n. 524234 ≤ n) (sym (length-replicate {0} {A = ℕ} 524234 0)) (le_refl 524234)
