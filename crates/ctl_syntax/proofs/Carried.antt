-- A goal is true at the same nodes of two structures of which one is the image of the other: truth
-- depends on what follows what, and on where the plain parts hold.
use Rattle.std.proofs.Common.{◌≡◌, ◌↔◌, List, [], ◌∷◌, length, map, refl, sym, ap, ◌∙◌, subst, inl, inr, ⊎_elim}
use Rattle.std.proofs.lemmas.List.{length-map}
use Rattle.ctl_syntax.specs.Goals.{CtlTree, CtlTrees, EachPlain, EachPlainOf, plain, negation, all, any, implication, ax, ex, af, ef, ag, eg, au, eu, aw, ew, no_goal, goal_then}
use Rattle.ctl_syntax.specs.Paths.{Meets, Keeps, MeetsOrKeeps, SomeNext, EveryPathMeets, SomePathMeets, EveryPathKeeps, SomePathKeeps}
use Rattle.task_core.specs.Paths.{IsPath}
use Rattle.ctl_syntax.specs.Truth.{Anything, Nothing, Satisfies, SatisfiesAll, SatisfiesAny}
use Rattle.ctl_syntax.proofs.Meeting.{meets_here, meets_later, meets_cases, meets_nothing, keeps_nothing, keeps_more, keeps_first, keeps_rest}

-- a node of the first structure that follows x, and whose image is y
pub record Lifted {X Y : Type 0} (Step : X → X → Type 0) (image : X → Y) (x : X) (y : Y) : Type 0 where
  pub node : X
  pub follows : Step x node
  pub is : image node ≡ y

module _ {X Y : Type 0} (StepX : X → X → Type 0) (StepY : Y → Y → Type 0) (image : X → Y) (Within : X → Type 0)
    (stays : (x z : X) → Within x → StepX x z → Within z)
    (forth : (x z : X) → Within x → StepX x z → StepY (image x) (image z))
    (back : (x : X) (y : Y) → Within x → StepY (image x) y → Lifted StepX image x y) where
  path_forth : (x : X) (rest : List X) → Within x → IsPath StepX x rest → IsPath StepY (image x) (map image rest)
  path_forth x [] w p = tt
  path_forth x (z ∷ rest) w p = (forth x z w p.0, path_forth z rest (stays x z w p.0) p.1)

  record PathLifted (x : X) (ys : List Y) : Type 0 where
    rest : List X
    path : IsPath StepX x rest
    is : map image rest ≡ ys

  path_back : (x : X) (ys : List Y) → Within x → IsPath StepY (image x) ys → PathLifted x ys
  path_back x [] w p = record { rest = []; path = tt; is = refl }
  path_back x (y ∷ ys) w p =
      let l = back x y w p.0 in
      let more = path_back l.node ys (stays x l.node w l.follows) (subst (λ z. IsPath StepY z ys) (sym l.is) p.1) in
      record { rest = l.node ∷ more.rest; path = (l.follows, more.path); is = ap (λ z. z ∷ map image more.rest) l.is ∙ ap (λ zs. y ∷ zs) more.is }

  next_forth : (G : X → Type 0) (I : Y → Type 0) → ((x : X) → Within x → G x ↔ I (image x)) → (x : X) → Within x → SomeNext StepX G x ↔ SomeNext StepY I (image x)
  next_forth G I same x w = (
    λ n. record { node = image n.node; follows = forth x n.node w n.follows; has = (same n.node (stays x n.node w n.follows)).0 n.has },
    λ n. let l = back x n.node w n.follows in
        record { node = l.node; follows = l.follows; has = (same l.node (stays x l.node w l.follows)).1 (subst I (sym l.is) n.has) },
  )

  module _ (G H : X → Type 0) (I J : Y → Type 0) (first : (x : X) → Within x → G x ↔ I (image x)) (second : (x : X) → Within x → H x ↔ J (image x)) where
    meets_forth : (x : X) (rest : List X) → Within x → IsPath StepX x rest → Meets G H (x ∷ rest) → Meets I J (image x ∷ map image rest)
    meets_forth x [] w p m =
        ⊎_elim (λ h. meets_here I J (image x) [] ((second x w).0 h)) (λ later. absurd (meets_nothing G H later.1)) (meets_cases G H x [] m)
    meets_forth x (z ∷ rest) w p m =
        ⊎_elim
        (λ h. meets_here I J (image x) (map image (z ∷ rest)) ((second x w).0 h))
        (λ later. meets_later I J (image x) (map image (z ∷ rest)) ((first x w).0 later.0) (meets_forth z rest (stays x z w p.0) p.1 later.1))
        (meets_cases G H x (z ∷ rest) m)

    meets_back : (x : X) (rest : List X) → Within x → IsPath StepX x rest → Meets I J (image x ∷ map image rest) → Meets G H (x ∷ rest)
    meets_back x [] w p m =
        ⊎_elim (λ h. meets_here G H x [] ((second x w).1 h)) (λ later. absurd (meets_nothing I J later.1)) (meets_cases I J (image x) [] m)
    meets_back x (z ∷ rest) w p m =
        ⊎_elim
        (λ h. meets_here G H x (z ∷ rest) ((second x w).1 h))
        (λ later. meets_later G H x (z ∷ rest) ((first x w).1 later.0) (meets_back z rest (stays x z w p.0) p.1 later.1))
        (meets_cases I J (image x) (map image (z ∷ rest)) m)

    keeps_forth : (x : X) (rest : List X) → Within x → IsPath StepX x rest → Keeps G (x ∷ rest) → Keeps I (image x ∷ map image rest)
    keeps_forth x [] w p k = keeps_more I (image x) [] ((first x w).0 (keeps_first G x [] k)) (keeps_nothing I)
    keeps_forth x (z ∷ rest) w p k =
        keeps_more I (image x) (map image (z ∷ rest)) ((first x w).0 (keeps_first G x (z ∷ rest) k)) (keeps_forth z rest (stays x z w p.0) p.1 (keeps_rest G x (z ∷ rest) k))

    keeps_back : (x : X) (rest : List X) → Within x → IsPath StepX x rest → Keeps I (image x ∷ map image rest) → Keeps G (x ∷ rest)
    keeps_back x [] w p k = keeps_more G x [] ((first x w).1 (keeps_first I (image x) [] k)) (keeps_nothing G)
    keeps_back x (z ∷ rest) w p k =
        keeps_more G x (z ∷ rest) ((first x w).1 (keeps_first I (image x) (map image (z ∷ rest)) k)) (keeps_back z rest (stays x z w p.0) p.1 (keeps_rest I (image x) (map image (z ∷ rest)) k))

    both_forth : (x : X) (rest : List X) → Within x → IsPath StepX x rest → MeetsOrKeeps G H (x ∷ rest) → MeetsOrKeeps I J (image x ∷ map image rest)
    both_forth x rest w p m = ⊎_elim (λ m. inl (meets_forth x rest w p m)) (λ k. inr (keeps_forth x rest w p k)) m

    both_back : (x : X) (rest : List X) → Within x → IsPath StepX x rest → MeetsOrKeeps I J (image x ∷ map image rest) → MeetsOrKeeps G H (x ∷ rest)
    both_back x rest w p m = ⊎_elim (λ m. inl (meets_back x rest w p m)) (λ k. inr (keeps_back x rest w p k)) m

    lifted_length : (x : X) (ys : List Y) (l : PathLifted x ys) → length l.rest ≡ length ys
    lifted_length x ys l = sym (length-map l.rest image) ∙ ap length l.is

    every_meets : (x : X) → Within x → EveryPathMeets StepX G H x ↔ EveryPathMeets StepY I J (image x)
    every_meets x w = (
      λ e. record {
        steps = e.steps;
        meets = λ ys long path.
            let l = path_back x ys w path in
            subst (λ zs. Meets I J (image x ∷ zs)) l.is (meets_forth x l.rest w l.path (e.meets l.rest (lifted_length x ys l ∙ long) l.path));
      },
      λ e. record {
        steps = e.steps;
        meets = λ rest long path. meets_back x rest w path (e.meets (map image rest) (length-map rest image ∙ long) (path_forth x rest w path));
      },
    )

    some_meets : (x : X) → Within x → SomePathMeets StepX G H x ↔ SomePathMeets StepY I J (image x)
    some_meets x w = (
      λ e. record { rest = map image e.rest; path = path_forth x e.rest w e.path; meets = meets_forth x e.rest w e.path e.meets },
      λ e. let l = path_back x e.rest w e.path in
          record { rest = l.rest; path = l.path; meets = meets_back x l.rest w l.path (subst (λ zs. Meets I J (image x ∷ zs)) (sym l.is) e.meets) },
    )

    every_keeps : (x : X) → Within x → EveryPathKeeps StepX G H x ↔ EveryPathKeeps StepY I J (image x)
    every_keeps x w = (
      λ e n ys long path.
          let l = path_back x ys w path in
          subst (λ zs. MeetsOrKeeps I J (image x ∷ zs)) l.is (both_forth x l.rest w l.path (e n l.rest (lifted_length x ys l ∙ long) l.path)),
      λ e n rest long path. both_back x rest w path (e n (map image rest) (length-map rest image ∙ long) (path_forth x rest w path)),
    )

    some_keeps : (x : X) → Within x → SomePathKeeps StepX G H x ↔ SomePathKeeps StepY I J (image x)
    some_keeps x w = (
      λ e n. let k = e n in
          record { rest = map image k.rest; long = length-map k.rest image ∙ k.long; path = path_forth x k.rest w k.path; keeps = both_forth x k.rest w k.path k.keeps },
      λ e n. let k = e n in
          let l = path_back x k.rest w k.path in
          record { rest = l.rest; long = lifted_length x k.rest l ∙ k.long; path = l.path; keeps = both_back x l.rest w l.path (subst (λ zs. MeetsOrKeeps I J (image x ∷ zs)) (sym l.is) k.keeps) },
    )

  module _ {P : Type 0} (HasX : P → X → Type 0) (HasY : P → Y → Type 0) (Known : P → Type 0) (same : (p : P) (x : X) → Known p → Within x → HasX p x ↔ HasY p (image x)) where
    anything : (x : X) → Within x → Anything x ↔ Anything (image x)
    anything x w = (λ _. tt, λ _. tt)

    nothing : (x : X) → Within x → Nothing x ↔ Nothing (image x)
    nothing x w = (λ n. n, λ n. n)

    mutual
      pub carried : (g : CtlTree P) → EachPlain Known g → (x : X) → Within x → Satisfies StepX HasX g x ↔ Satisfies StepY HasY g (image x)
      carried (plain p) k x w = same p x k w
      carried (negation g) k x w = (λ n s. n ((carried g k x w).1 s), λ n s. n ((carried g k x w).0 s))
      carried (all gs) k x w = carried_all gs k x w
      carried (any gs) k x w = carried_any gs k x w
      carried (implication g h) k x w = (
        λ i s. (carried h k.1 x w).0 (i ((carried g k.0 x w).1 s)),
        λ i s. (carried h k.1 x w).1 (i ((carried g k.0 x w).0 s)),
      )
      carried (ax g) k x w = (
        λ a y step. let l = back x y w step in subst (Satisfies StepY HasY g) l.is ((carried g k l.node (stays x l.node w l.follows)).0 (a l.node l.follows)),
        λ a z step. (carried g k z (stays x z w step)).1 (a (image z) (forth x z w step)),
      )
      carried (ex g) k x w = next_forth (Satisfies StepX HasX g) (Satisfies StepY HasY g) (λ z v. carried g k z v) x w
      carried (af g) k x w = every_meets Anything (Satisfies StepX HasX g) Anything (Satisfies StepY HasY g) anything (λ z v. carried g k z v) x w
      carried (ef g) k x w = some_meets Anything (Satisfies StepX HasX g) Anything (Satisfies StepY HasY g) anything (λ z v. carried g k z v) x w
      carried (ag g) k x w = every_keeps (Satisfies StepX HasX g) Nothing (Satisfies StepY HasY g) Nothing (λ z v. carried g k z v) nothing x w
      carried (eg g) k x w = some_keeps (Satisfies StepX HasX g) Nothing (Satisfies StepY HasY g) Nothing (λ z v. carried g k z v) nothing x w
      carried (au g h) k x w = every_meets (Satisfies StepX HasX g) (Satisfies StepX HasX h) (Satisfies StepY HasY g) (Satisfies StepY HasY h) (λ z v. carried g k.0 z v) (λ z v. carried h k.1 z v) x w
      carried (eu g h) k x w = some_meets (Satisfies StepX HasX g) (Satisfies StepX HasX h) (Satisfies StepY HasY g) (Satisfies StepY HasY h) (λ z v. carried g k.0 z v) (λ z v. carried h k.1 z v) x w
      carried (aw g h) k x w = every_keeps (Satisfies StepX HasX g) (Satisfies StepX HasX h) (Satisfies StepY HasY g) (Satisfies StepY HasY h) (λ z v. carried g k.0 z v) (λ z v. carried h k.1 z v) x w
      carried (ew g h) k x w = some_keeps (Satisfies StepX HasX g) (Satisfies StepX HasX h) (Satisfies StepY HasY g) (Satisfies StepY HasY h) (λ z v. carried g k.0 z v) (λ z v. carried h k.1 z v) x w

      carried_all : (gs : CtlTrees P) → EachPlainOf Known gs → (x : X) → Within x → SatisfiesAll StepX HasX gs x ↔ SatisfiesAll StepY HasY gs (image x)
      carried_all no_goal k x w = (λ _. tt, λ _. tt)
      carried_all (goal_then g gs) k x w = (
        λ s. ((carried g k.0 x w).0 s.0, (carried_all gs k.1 x w).0 s.1),
        λ s. ((carried g k.0 x w).1 s.0, (carried_all gs k.1 x w).1 s.1),
      )

      carried_any : (gs : CtlTrees P) → EachPlainOf Known gs → (x : X) → Within x → SatisfiesAny StepX HasX gs x ↔ SatisfiesAny StepY HasY gs (image x)
      carried_any no_goal k x w = (λ n. n, λ n. n)
      carried_any (goal_then g gs) k x w = (
        λ s. ⊎_elim (λ a. inl ((carried g k.0 x w).0 a)) (λ b. inr ((carried_any gs k.1 x w).0 b)) s,
        λ s. ⊎_elim (λ a. inl ((carried g k.0 x w).1 a)) (λ b. inr ((carried_any gs k.1 x w).1 b)) s,
      )
