-- The parts of a witness, one after another.
use Rattle.std.proofs.Common.{◌≡◌, ℕ, List, [], ◌∷◌, ◌++◌, ap, ◌∙◌, append_assoc}
use Rattle.std.proofs.lemmas.List.{map-append}
use Rattle.goal_witness.specs.Failures.{PlainLink}
use Rattle.goal_witness.specs.Links.{link_value, links_value}
use Rattle.goal_witness.specs.declared.links.Link.{Link}

pub joined_end : (n : ℕ) (xs : List Link) (x : Link) (ys : List Link) → ys ≡ xs ++ x ∷ [] → links_value n ys ≡ links_value n xs ++ link_value n x ∷ []
joined_end n xs x ys is = ap (links_value n) is ∙ map-append (link_value n) xs (x ∷ [])

pub joined_more : (n : ℕ) (xs : List Link) (x : Link) (ys : List Link) (more : List PlainLink) → ys ≡ xs ++ x ∷ [] → links_value n ys ++ more ≡ links_value n xs ++ link_value n x ∷ more
joined_more n xs x ys more is = ap (λ zs. zs ++ more) (joined_end n xs x ys is) ∙ append_assoc (links_value n xs) (link_value n x ∷ []) more
