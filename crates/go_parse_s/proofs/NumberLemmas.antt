-- The numbers that a tree had before are of no account for those that it gets.
use Rattle.std.proofs.Common.{◌≡◌, ℕ, ◌+◌, Bool, true, false, if◌then◌else◌, refl, ap, sym, ◌∙◌, arith}
use Rattle.go_tree.specs.Tree.{Tree, branch, Trees, no_trees, more_trees, end_of, node_count, node_count_of_all}
use Rattle.go_parse_x.specs.Tables.Opened.{unnumbered, all_unnumbered}
use Rattle.go_parse_x.proofs.OpenedLemmas.{start_of-unnumbered}
use Rattle.go_text.specs.Copies.{with_copies, all_with_copies, specs_with_copies, completed, list_behind, copy_if_any, last_end, is_group}
use Rattle.go_text.specs.Numbers.{numbered, all_numbered}

mutual
  node_count-unnumbered : (t : Tree) → node_count (unnumbered t) ≡ node_count t
  node_count-unnumbered (branch id from to kind text parts) = ap (λ n. 1 + n) (count-unnumbered parts)

  count-unnumbered : (ts : Trees) → node_count_of_all (all_unnumbered ts) ≡ node_count_of_all ts
  count-unnumbered no_trees = refl
  count-unnumbered (more_trees t ts) = let a = node_count-unnumbered t in let b = count-unnumbered ts in omega (arith, a, b)

mutual
  numbered-unnumbered : (n : ℕ) (t : Tree) → numbered n (unnumbered t) ≡ numbered n t
  numbered-unnumbered n (branch id from to kind text parts) = rw (count-unnumbered parts) (ap (λ ts. branch (n + node_count_of_all parts) from to kind text ts) (all_numbered-unnumbered n parts))

  all_numbered-unnumbered : (n : ℕ) (ts : Trees) → all_numbered n (all_unnumbered ts) ≡ all_numbered n ts
  all_numbered-unnumbered n no_trees = refl
  all_numbered-unnumbered n (more_trees t ts) = rw (node_count-unnumbered t, numbered-unnumbered n t) (ap (λ us. more_trees (numbered n t) us) (all_numbered-unnumbered (n + node_count t) ts))

end_of-unnumbered : (t : Tree) → end_of (unnumbered t) ≡ end_of t
end_of-unnumbered (branch id from to kind text parts) = refl

last_end-unnumbered : (t : Tree) (ts : Trees) → last_end (unnumbered t) (all_unnumbered ts) ≡ last_end t ts
last_end-unnumbered t no_trees = end_of-unnumbered t
last_end-unnumbered t (more_trees u us) = last_end-unnumbered u us

copy_if_any-unnumbered : (ts : Trees) → all_unnumbered (copy_if_any ts) ≡ copy_if_any (all_unnumbered ts)
copy_if_any-unnumbered no_trees = refl
copy_if_any-unnumbered (more_trees t ts) = rw (start_of-unnumbered t, last_end-unnumbered t ts) refl

completed-unnumbered : (list : Trees) (t : Tree) → unnumbered (completed list t) ≡ completed (all_unnumbered list) (unnumbered t)
completed-unnumbered list (branch id from to kind text no_trees) = refl
completed-unnumbered list (branch id from to kind text (more_trees names no_trees)) = ap (λ ts. branch 0 from to kind text (more_trees (unnumbered names) ts)) (copy_if_any-unnumbered list)
completed-unnumbered list (branch id from to kind text (more_trees names (more_trees t ts))) = refl

list_behind-unnumbered : (list : Trees) (t : Tree) → all_unnumbered (list_behind list t) ≡ list_behind (all_unnumbered list) (unnumbered t)
list_behind-unnumbered list (branch id from to kind text no_trees) = refl
list_behind-unnumbered list (branch id from to kind text (more_trees names no_trees)) = refl
list_behind-unnumbered list (branch id from to kind text (more_trees names (more_trees t ts))) = refl

chosen : (b : Bool) (a c d e : Trees) → all_unnumbered a ≡ c → all_unnumbered d ≡ e → all_unnumbered (if b then a else d) ≡ (if b then c else e)
chosen true a c d e p q = p
chosen false a c d e p q = q

mutual
  copies-unnumbered : (t : Tree) → unnumbered (with_copies t) ≡ with_copies (unnumbered t)
  copies-unnumbered (branch id from to kind text parts) = ap (λ ts. branch 0 from to kind text ts) (chosen (is_group kind) _ _ _ _ (specs-unnumbered no_trees parts) (all-unnumbered parts))

  all-unnumbered : (ts : Trees) → all_unnumbered (all_with_copies ts) ≡ all_with_copies (all_unnumbered ts)
  all-unnumbered no_trees = refl
  all-unnumbered (more_trees t ts) = rw (copies-unnumbered t, all-unnumbered ts) refl

  specs-unnumbered : (list ts : Trees) → all_unnumbered (specs_with_copies list ts) ≡ specs_with_copies (all_unnumbered list) (all_unnumbered ts)
  specs-unnumbered list no_trees = refl
  specs-unnumbered list (more_trees t ts) = rw (completed-unnumbered list (with_copies t), specs-unnumbered (list_behind list (with_copies t)) ts, list_behind-unnumbered list (with_copies t), copies-unnumbered t) refl

-- the numbers of a tree that was read do not count
pub numbered_anew : (n : ℕ) (t : Tree) → numbered n (with_copies t) ≡ numbered n (with_copies (unnumbered t))
numbered_anew n t = sym (numbered-unnumbered n (with_copies t)) ∙ ap (numbered n) (copies-unnumbered t)
