-- A job over a list of requests.
use Rattle.std.specs.Prelude.{ℕ, zero, suc, cond, List, [], ◌∷◌, take, is_some}
use Rattle.level.specs.Laws.{Arithmetic}
use Rattle.job_rules.specs.JobRefusals.{refusal}
use Rattle.job_rules.specs.Ledger.{Ledger, empty, moved}
use Rattle.job_rules.specs.Replies.{Reply, reply}
use Rattle.job_rules.specs.Requests.{Request}
use Rattle.job_rules.specs.Requests.Request.{Weight}

-- the ledger after a request: one that is refused leaves it alone
abbrev pub after : {k : ℕ} → Arithmetic k → ℕ → Ledger k → Request k → Ledger k
after A size l request = cond (is_some (refusal A size l request)) l (moved l request)

-- the ledger after a list of requests
unfoldable pub after_all : {k : ℕ} → Arithmetic k → ℕ → Ledger k → List (Request k) → Ledger k
after_all A size l [] = l
after_all A size l (request ∷ requests) = after_all A size (after A size l request) requests

-- the replies to a list of requests, each by the ledger of those before it
unfoldable pub replies : {k : ℕ} → Arithmetic k → ℕ → Ledger k → List (Request k) → List (Reply k)
replies A size l [] = []
replies A size l (request ∷ requests) = reply A size l request ∷ replies A size (after A size l request) requests

-- the ledger of a job over `size` elements when request i of those since its making comes
abbrev pub before : {k : ℕ} → Arithmetic k → ℕ → List (Request k) → ℕ → Ledger k
before A size requests i = after_all A size empty (take i requests)

-- the questions for n weights, from index i on
unfoldable pub weights_asked : {k : ℕ} → ℕ → ℕ → List (Request k)
weights_asked i zero = []
weights_asked i (suc n) = Weight i ∷ weights_asked (suc i) n
