-- Fewer states lie in a set that has another one's states, but not all of them.
use Rattle.std.proofs.Common.{◌≡◌, ℕ, ◌<◌, true, not, length}
use Rattle.list_laws.proofs.Booleans.{not_up, same_not}
use Rattle.task_core.specs.Cubes.{SetOfVectors}
use Rattle.task_core.specs.Vectors.{Vector, all_vectors}
use Rattle.plan_theory.proofs.Cubes.{all_vectors-agree, all_vectors-length}
use Rattle.plan_theory.proofs.RoundSteps.{held, holds_fewer}

pub fewer : (n : ℕ) (f g : SetOfVectors) → ((v : Vector) → length v ≡ n → g v ≡ true → f v ≡ true) → (((v : Vector) → length v ≡ n → g v ≡ f v) → ⊥)
    → held g (all_vectors n) < held f (all_vectors n)
fewer n f g part differ = holds_fewer f g (all_vectors n) (λ v c h. part v (all_vectors-length n v c) h) (λ same. differ (λ v is. all_vectors-agree g f n same v is))

-- and fewer lie outside a set that is larger
pub fewer_outside : (n : ℕ) (f g : SetOfVectors) → ((v : Vector) → length v ≡ n → f v ≡ true → g v ≡ true) → (((v : Vector) → length v ≡ n → g v ≡ f v) → ⊥)
    → held (λ v. not (g v)) (all_vectors n) < held (λ v. not (f v)) (all_vectors n)
fewer_outside n f g more differ =
    fewer n (λ v. not (f v)) (λ v. not (g v)) (λ v is. not_up (f v) (g v) (more v is)) (λ same. differ (λ v is. same_not (g v) (f v) (same v is)))
