-- One list of requests after another.
use Rattle.std.proofs.Common.{◌≡◌, ℕ, List, [], ◌∷◌, ◌++◌, refl, ap}
use Rattle.level.specs.Laws.{Arithmetic}
use Rattle.job_rules.specs.Ledger.{Ledger}
use Rattle.job_rules.specs.Replies.{reply}
use Rattle.job_rules.specs.Requests.{Request}
use Rattle.job_rules.specs.Runs.{after, after_all, replies}

pub after_append : {k : ℕ} (A : Arithmetic k) (size : ℕ) (l : Ledger k) (xs ys : List (Request k)) → after_all A size l (xs ++ ys) ≡ after_all A size (after_all A size l xs) ys
unfolding after_all
after_append A size l [] ys = refl
after_append A size l (x ∷ xs) ys = after_append A size (after A size l x) xs ys

pub replies_append : {k : ℕ} (A : Arithmetic k) (size : ℕ) (l : Ledger k) (xs ys : List (Request k))
    → replies A size l (xs ++ ys) ≡ replies A size l xs ++ replies A size (after_all A size l xs) ys
unfolding replies after_all
replies_append A size l [] ys = refl
replies_append A size l (x ∷ xs) ys = ap (λ rs. reply A size l x ∷ rs) (replies_append A size (after A size l x) xs ys)
