-- What is on the board where a set adds nothing to the union.
use Rattle.std.proofs.Common.{◌≡◌, length, take_all, sym, subst, ◌∙◌, arith}
use Rattle.dd_nodes.specs.Subfunctions.{Function}
use Rattle.dd_ops.specs.Operations.{minus_of}
use Rattle.dd_sets.specs.declared.slots.SetId.{SetId}
use Rattle.dd_sets.proofs.OperationSizes.{difference_rough}
use Rattle.encode_task.specs.Slots.{Encoded}
use Rattle.task_core.specs.Tasks.{fluent_count}
use Rattle.plan_certs.specs.Certificates.{CubeSet}
use Rattle.slot_board.specs.Board.{Fits, IsSmall, Moved, Start}
use Rattle.cert_check.specs.Sets.{states_in}
use Rattle.cert_check.specs.Sizes.{HasLeft, HasSet, HasUnion, IsBoard, SetFits}
use Rattle.std.proofs.Common.{List, inr}

-- the states of a set are small
pub states_small : (start : Start) (set : CubeSet) → SetFits start set → IsSmall start (states_in start.task set)
states_small start set fits = subst (λ (s : CubeSet). IsSmall start (states_in start.task s)) (take_all (length set) set (omega arith)) (fits.firsts (length set))

-- the union is the same set
pub union_is : (start : Start) (now : Encoded) (slots : List SetId) (f g : Function) → HasUnion start now slots f → f ≡ g → HasUnion start now slots g
union_is start now slots f g union is = subst (HasUnion start now slots) is union

-- what of a set the union lacks may stand at the place of what may be left
pub new_fits : (start : Start) (f g set : Function) → IsBoard start → IsSmall start f → IsSmall start g → set ≡ minus_of g f → Fits start 4 set
new_fits start f g set board f_small g_small is = subst (Fits start 4) (sym is) (inr (board.left, difference_rough (fluent_count start.task) start.width g f g_small f_small))

pub new_put : (start : Start) (enc now : Encoded) (old new : List SetId) (f g set : Function) → HasSet start enc old f g → IsBoard start → set ≡ minus_of g f → Moved start enc.sets old now new 4 set → HasLeft start now new f g (minus_of g f)
new_put start enc now old new f g set has board is moved =
    let long : length old ≡ start.places = has.by_union.at.long in
    let five : start.places ≡ 5 = board.five in
    record {
      by_set = record {
        by_union = record {
          at = moved.at;
          sound = moved.sound;
          union = moved.others 0 (omega arith) (λ e. absurd (omega (arith, e))) ∙ has.by_union.union;
        };
        set = moved.others 1 (omega arith) (λ e. absurd (omega (arith, e))) ∙ has.set;
      };
      left = moved.here ∙ is;
    }
