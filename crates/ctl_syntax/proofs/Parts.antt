-- What holds of each plain part of a goal.
use Rattle.ctl_syntax.specs.Goals.{CtlTree, CtlTrees, EachPlain, EachPlainOf, map_plain, map_plain_of, plain, negation, all, any, implication, ax, ex, af, ef, ag, eg, au, eu, aw, ew, no_goal, goal_then}

module _ {P : Type 0} (Q R : P → Type 0) (weaker : (p : P) → Q p → R p) where
  mutual
    pub each_weaker : (g : CtlTree P) → EachPlain Q g → EachPlain R g
    each_weaker (plain p) q = weaker p q
    each_weaker (negation g) q = each_weaker g q
    each_weaker (all gs) q = each_weaker_of gs q
    each_weaker (any gs) q = each_weaker_of gs q
    each_weaker (implication g h) q = (each_weaker g q.0, each_weaker h q.1)
    each_weaker (ax g) q = each_weaker g q
    each_weaker (ex g) q = each_weaker g q
    each_weaker (af g) q = each_weaker g q
    each_weaker (ef g) q = each_weaker g q
    each_weaker (ag g) q = each_weaker g q
    each_weaker (eg g) q = each_weaker g q
    each_weaker (au g h) q = (each_weaker g q.0, each_weaker h q.1)
    each_weaker (eu g h) q = (each_weaker g q.0, each_weaker h q.1)
    each_weaker (aw g h) q = (each_weaker g q.0, each_weaker h q.1)
    each_weaker (ew g h) q = (each_weaker g q.0, each_weaker h q.1)

    each_weaker_of : (gs : CtlTrees P) → EachPlainOf Q gs → EachPlainOf R gs
    each_weaker_of no_goal q = tt
    each_weaker_of (goal_then g gs) q = (each_weaker g q.0, each_weaker_of gs q.1)

-- what holds of each plain part once it is replaced holds of what replaces it
module _ {P R : Type 0} (f : P → R) (Q : R → Type 0) where
  mutual
    pub each_mapped : (g : CtlTree P) → EachPlain Q (map_plain f g) → EachPlain (λ p. Q (f p)) g
    each_mapped (plain p) q = q
    each_mapped (negation g) q = each_mapped g q
    each_mapped (all gs) q = each_mapped_of gs q
    each_mapped (any gs) q = each_mapped_of gs q
    each_mapped (implication g h) q = (each_mapped g q.0, each_mapped h q.1)
    each_mapped (ax g) q = each_mapped g q
    each_mapped (ex g) q = each_mapped g q
    each_mapped (af g) q = each_mapped g q
    each_mapped (ef g) q = each_mapped g q
    each_mapped (ag g) q = each_mapped g q
    each_mapped (eg g) q = each_mapped g q
    each_mapped (au g h) q = (each_mapped g q.0, each_mapped h q.1)
    each_mapped (eu g h) q = (each_mapped g q.0, each_mapped h q.1)
    each_mapped (aw g h) q = (each_mapped g q.0, each_mapped h q.1)
    each_mapped (ew g h) q = (each_mapped g q.0, each_mapped h q.1)

    each_mapped_of : (gs : CtlTrees P) → EachPlainOf Q (map_plain_of f gs) → EachPlainOf (λ p. Q (f p)) gs
    each_mapped_of no_goal q = tt
    each_mapped_of (goal_then g gs) q = (each_mapped g q.0, each_mapped_of gs q.1)
