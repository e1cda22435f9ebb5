-- What stands between the parts of a program, in each language. `frames/make` wrote this file.
use Rattle.std.specs.Prelude.{ℕ, List, codes}
use Rattle.controller_code.specs.declared.texts.Language.{Language}
use Rattle.controller_code.specs.declared.texts.Language.TheVariants.{C, Python, Rust}

-- what stands before the fluents
unfoldable pub fluents_head_text : Language → List ℕ
fluents_head_text C =
    codes "/* A controller. It needs no library: include this text where it is used.\n *\n * state[f] is 0 where the fluent of number f is false. The first context is 1. A robot's loop:\n *\n *     struct @_decision decision = {@_act, 0, 1};\n *     while ((decision = @_decide(state, decision.next)).answer == @_act)\n *         take(@_action_names[decision.action]);\n */\n#ifndef @_included\n#define @_included\n\n/* Take the action; stop, since the goal holds; or stop, since the plan has no rule for this state. */\nenum @_answer { @_act, @_done, @_outside };\n\nstruct @_decision {\n    enum @_answer answer;\n    int action; /* its place in @_action_names, or -1 */\n    int next;   /* the context in which to go on */\n};\n\nstatic const char *const @_fluent_names[] = {\n"
fluents_head_text Rust =
    codes "// A controller. It needs no crate: put this text into a file @.rs and write `mod @;`.\n//\n// state[f] is the value of the fluent of number f. The first context is 1. A robot's loop:\n//\n//     let mut context = 1;\n//     while let (@::Answer::Act(action), next) = @::decide(&state, context) {\n//         take(@::ACTION_NAMES[action]);\n//         context = next;\n//     }\n\n/// What is to be done.\n#[derive(Clone, Copy, Debug, PartialEq, Eq)]\npub enum Answer {\n    /// Take the action of this place in `ACTION_NAMES`.\n    Act(usize),\n    /// Stop, since the goal holds.\n    Done,\n    /// Stop, since the plan has no rule for this state.\n    Outside,\n}\n\n#[allow(dead_code)]\npub const FLUENT_NAMES: &[&str] = &[\n"
fluents_head_text Python =
    codes "\"\"\"A controller. It needs no library: put this text into a file @.py and write `import @`.\n\nstate[f] is the value of the fluent of number f. The first context is 1. A robot's loop:\n\n    answer, action, context = @.decide(state, 1)\n    while answer == @.ACT:\n        take(@.ACTION_NAMES[action])\n        answer, action, context = @.decide(state, context)\n\"\"\"\n\nACT = \"act\"  # Take the action.\nDONE = \"done\"  # Stop, since the goal holds.\nOUTSIDE = \"outside\"  # Stop, since the plan has no rule for this state.\n\nFLUENT_NAMES = [\n"

-- what stands before the actions
unfoldable pub actions_head_text : Language → List ℕ
actions_head_text C =
    codes "    0\n};\n\nstatic const char *const @_action_names[] = {\n"
actions_head_text Rust =
    codes "];\n\n#[allow(dead_code)]\npub const ACTION_NAMES: &[&str] = &[\n"
actions_head_text Python =
    codes "]\n\nACTION_NAMES = [\n"

-- what stands before the number of contexts
unfoldable pub contexts_head_text : Language → List ℕ
contexts_head_text C =
    codes "    0\n};\n\nstatic const int @_contexts = "
contexts_head_text Rust =
    codes "];\n\nconst CONTEXTS: usize = "
contexts_head_text Python =
    codes "]\n\n_CONTEXTS = "

-- what stands before the goal
unfoldable pub goal_head_text : Language → List ℕ
goal_head_text C =
    codes ";\n\n/* The rows of a table: how many numbers follow, and these. A row of length 0 ends the table. */\n\n/* The goal: the words of its condition. A plan with contexts has no goal, since a stage is a context. */\nstatic const int @_goal[] = {\n"
goal_head_text Rust =
    codes ";\n\n/// The goal: the words of its condition. A plan with contexts has no goal, since a stage is a context.\n/// A row of a table, as this one, begins with how many numbers follow.\nstatic GOAL: &[usize] = &[\n"
goal_head_text Python =
    codes "\n\ndef _rows(table):\n    \"\"\"The rows of a table: before each stands how many numbers it has.\"\"\"\n    rows, place = [], 0\n    while place < len(table):\n        count = table[place]\n        rows.append(table[place + 1 : place + 1 + count])\n        place += 1 + count\n    return rows\n\n\n# The goal: the words of its condition. A plan with contexts has no goal, since a stage is a context.\n_GOAL = _rows([\n"

-- what stands before the outcomes
unfoldable pub outcomes_head_text : Language → List ℕ
outcomes_head_text C =
    codes "    0\n};\n\n/* Of each outcome a row without literals, and a row for each change: the action, the outcome, how many\n * literals, the literals, and the words of its condition. The literal 2 f makes the fluent f false, and\n * 2 f + 1 makes it true. */\nstatic const int @_outcomes[] = {\n"
outcomes_head_text Rust =
    codes "];\n\n/// Of each outcome a row without literals, and a row for each change: the action, the outcome, how many\n/// literals, the literals, and the words of its condition. The literal 2 f makes the fluent f false, and\n/// 2 f + 1 makes it true.\nstatic OUTCOMES: &[usize] = &[\n"
outcomes_head_text Python =
    codes "])\n\n# Of each outcome a row without literals, and a row for each change: the action, the outcome, how many\n# literals, the literals, and the words of its condition. The literal 2 f makes the fluent f false, and\n# 2 f + 1 makes it true.\n_OUTCOMES = _rows([\n"

-- what stands after the outcomes
unfoldable pub functions_text : Language → List ℕ
functions_text C =
    codes "    0\n};\n\n/* The value of a condition. The words 0 and 1 are brackets, 2 is true, 3 is false, 4 negates the value,\n * 5 goes behind the closing bracket where the value is false, 6 does so where it is true, and 7 + f is the\n * value of the fluent f. */\nstatic inline int @_holds(const int *words, int count, const unsigned char *state)\n{\n    int value = 1;\n    int open = 0; /* how many brackets have to close before the words count again */\n    for (int i = 0; i < count; i++) {\n        const int word = words[i];\n        if (open > 0)\n            open += word == 0 ? 1 : word == 1 ? -1 : 0;\n        else if (word == 2 || word == 3)\n            value = word == 2;\n        else if (word == 4)\n            value = !value;\n        else if (word == 5 || word == 6)\n            open = value == (word == 6);\n        else if (word >= 7)\n            value = state[word - 7] != 0;\n    }\n    return value;\n}\n\n/* Whether the goal holds in a state. */\nstatic inline int @_is_goal(const unsigned char *state)\n{\n    return @_holds(@_goal + 1, @_goal[0], state);\n}\n\n/* Whether the outcome whose rows begin here leads from a state to the state after it. All conditions are\n * read in the first state. A fluent that is made false and true becomes true. */\nstatic inline int @_leads(const int *first, const unsigned char *state, const unsigned char *after)\n{\n    unsigned char made[sizeof @_fluent_names / sizeof @_fluent_names[0]];\n    for (int f = 0; @_fluent_names[f]; f++)\n        made[f] = state[f] != 0;\n    for (int value = 0; value < 2; value++)\n        for (const int *row = first; row[0] > 0 && row[1] == first[1] && row[2] == first[2]; row += row[0] + 1)\n            for (int i = 4; i < 4 + row[3]; i++)\n                if (row[i] % 2 == value && @_holds(row + 4 + row[3], row[0] - 3 - row[3], state))\n                    made[row[i] / 2] = value == 1;\n    for (int f = 0; @_fluent_names[f]; f++)\n        if (made[f] != (after[f] != 0))\n            return 0;\n    return 1;\n}\n\n/* The number of the first outcome of an action that leads from a state to the state after it; -1 if none\n * does. It does not look at the precondition. */\nstatic inline int @_explains(const unsigned char *state, int action, const unsigned char *after)\n{\n    int outcome = 0;\n    for (const int *row = @_outcomes; row[0] > 0; row += row[0] + 1)\n        if (row[1] == action && row[2] == outcome) {\n            if (@_leads(row, state, after))\n                return outcome;\n            outcome++;\n        }\n    return -1;\n}\n\n"
functions_text Rust =
    codes "];\n\n/// The rows of a table.\nfn rows(table: &'static [usize]) -> impl Iterator<Item = &'static [usize]> {\n    let mut rest = table;\n    core::iter::from_fn(move || {\n        let (&count, numbers) = rest.split_first()?;\n        let (row, others) = numbers.split_at(count);\n        rest = others;\n        Some(row)\n    })\n}\n\n/// The value of a condition. The words 0 and 1 are brackets, 2 is true, 3 is false, 4 negates the value,\n/// 5 goes behind the closing bracket where the value is false, 6 does so where it is true, and 7 + f is the\n/// value of the fluent f.\nfn holds(words: &[usize], state: &[bool]) -> bool {\n    let mut value = true;\n    let mut open = 0; // how many brackets have to close before the words count again\n    for &word in words {\n        match word {\n            0 if open > 0 => open += 1,\n            1 if open > 0 => open -= 1,\n            _ if open > 0 => {}\n            0 | 1 => {}\n            2 | 3 => value = word == 2,\n            4 => value = !value,\n            5 | 6 => open = usize::from(value == (word == 6)),\n            _ => value = state[word - 7],\n        }\n    }\n    value\n}\n\n/// Whether the goal holds in a state.\npub fn is_goal(state: &[bool]) -> bool {\n    rows(GOAL).all(|words| holds(words, state))\n}\n\n/// Whether an outcome leads from a state to the state after it. All conditions are read in the first\n/// state. A fluent that is made false and true becomes true.\nfn leads(action: usize, outcome: usize, state: &[bool], after: &[bool]) -> bool {\n    let mut made = [false; FLUENT_NAMES.len()];\n    made.copy_from_slice(state);\n    for value in [false, true] {\n        for row in rows(OUTCOMES).filter(|row| row[0] == action && row[1] == outcome) {\n            for literal in &row[3..3 + row[2]] {\n                if (literal % 2 == 1) == value && holds(&row[3 + row[2]..], state) {\n                    made[literal / 2] = value;\n                }\n            }\n        }\n    }\n    made == *after\n}\n\n/// The number of the first outcome of an action that leads from a state to the state after it, if one\n/// does. It does not look at the precondition.\n#[allow(dead_code)]\npub fn explains(state: &[bool], action: usize, after: &[bool]) -> Option<usize> {\n    rows(OUTCOMES)\n        .filter(|row| row[0] == action && row[2] == 0)\n        .map(|row| row[1])\n        .find(|&outcome| leads(action, outcome, state, after))\n}\n\n"
functions_text Python =
    codes "])\n\n\ndef _holds(words, state):\n    \"\"\"The value of a condition. The words 0 and 1 are brackets, 2 is true, 3 is false, 4 negates the\n    value, 5 goes behind the closing bracket where the value is false, 6 does so where it is true, and\n    7 + f is the value of the fluent f.\n    \"\"\"\n    value, opened = True, 0  # how many brackets have to close before the words count again\n    for word in words:\n        if opened > 0:\n            opened += 1 if word == 0 else -1 if word == 1 else 0\n        elif word in (2, 3):\n            value = word == 2\n        elif word == 4:\n            value = not value\n        elif word in (5, 6):\n            opened = int(value == (word == 6))\n        elif word >= 7:\n            value = bool(state[word - 7])\n    return value\n\n\ndef is_goal(state):\n    \"\"\"Whether the goal holds in a state.\"\"\"\n    return all(_holds(words, state) for words in _GOAL)\n\n\ndef _leads(action, outcome, state, after):\n    \"\"\"Whether an outcome leads from a state to the state after it. All conditions are read in the first\n    state. A fluent that is made false and true becomes true.\n    \"\"\"\n    made = [bool(value) for value in state]\n    for value in (0, 1):\n        for row in _OUTCOMES:\n            if row[0] == action and row[1] == outcome and _holds(row[3 + row[2] :], state):\n                for literal in row[3 : 3 + row[2]]:\n                    if literal % 2 == value:\n                        made[literal // 2] = value == 1\n    return made == [bool(value) for value in after]\n\n\ndef explains(state, action, after):\n    \"\"\"The number of the first outcome of an action that leads from a state to the state after it; None if\n    none does. It does not look at the precondition.\n    \"\"\"\n    for row in _OUTCOMES:\n        if row[0] == action and row[2] == 0 and _leads(action, row[1], state, after):\n            return row[1]\n    return None\n\n\n"

-- what stands before the rules
unfoldable pub rules_head_text : Language → List ℕ
rules_head_text C =
    codes "/* The rules in their order: the context, the action, the next context, and the literals. The literal 2 f\n * asks that the fluent f is false, and 2 f + 1 that it is true. */\nstatic const int @_rules[] = {\n"
rules_head_text Rust =
    codes "/// The rules in their order: the context, the action, the next context, and the literals. The literal 2 f\n/// asks that the fluent f is false, and 2 f + 1 that it is true.\nstatic RULES: &[usize] = &[\n"
rules_head_text Python =
    codes "# The rules in their order: the context, the action, the next context, and the literals. The literal 2 f\n# asks that the fluent f is false, and 2 f + 1 that it is true.\n_RULES = _rows([\n"

-- what stands after the rules
unfoldable pub rules_tail_text : Language → List ℕ
rules_tail_text C =
    codes "    0\n};\n\n/* The first rule of the context whose literals all hold decides. */\nstatic inline struct @_decision @_decide(const unsigned char *state, int context)\n{\n    struct @_decision decision = {@_outside, -1, context};\n    if (context < 1 || context > @_contexts)\n        return decision;\n    for (const int *row = @_rules; row[0] > 0; row += row[0] + 1) {\n        int place = 4;\n        if (row[1] != context)\n            continue;\n        while (place <= row[0] && (state[row[place] / 2] != 0) == row[place] % 2)\n            place++;\n        if (place > row[0]) {\n            decision.answer = @_act;\n            decision.action = row[2];\n            decision.next = row[3];\n            return decision;\n        }\n    }\n    if (@_is_goal(state))\n        decision.answer = @_done;\n    return decision;\n}\n\n#endif\n"
rules_tail_text Rust =
    codes "];\n\n/// What is to be done, and the context in which to go on: the first rule of the context whose literals all\n/// hold decides.\npub fn decide(state: &[bool], context: usize) -> (Answer, usize) {\n    if context < 1 || context > CONTEXTS {\n        return (Answer::Outside, context);\n    }\n    for row in rows(RULES) {\n        let literals = &row[3..];\n        if row[0] == context && literals.iter().all(|literal| state[literal / 2] == (literal % 2 == 1)) {\n            return (Answer::Act(row[1]), row[2]);\n        }\n    }\n    (if is_goal(state) { Answer::Done } else { Answer::Outside }, context)\n}\n"
rules_tail_text Python =
    codes "])\n\n\ndef decide(state, context):\n    \"\"\"The answer, the action (None without one) and the context in which to go on. The first rule of the\n    context whose literals all hold decides.\n    \"\"\"\n    if not 1 <= context <= _CONTEXTS:\n        return OUTSIDE, None, context\n    for row in _RULES:\n        if row[0] == context and all(bool(state[literal // 2]) == (literal % 2 == 1) for literal in row[3:]):\n            return ACT, row[1], row[2]\n    return DONE if is_goal(state) else OUTSIDE, None, context\n"

-- what stands before the steps
unfoldable pub steps_head_text : Language → List ℕ
steps_head_text C =
    codes "/* The steps of a decision, four numbers each. 1, f, s, t asks for the fluent f and goes on at the step s\n * if it is true, else at t. 2, a, c, 0 takes the action a and goes on in the context c. 0, 0, 0, 0 stops:\n * no rule matches. */\nstatic const int @_steps[] = {\n"
steps_head_text Rust =
    codes "/// The steps of a decision, four numbers each. 1, f, s, t asks for the fluent f and goes on at the step s\n/// if it is true, else at t. 2, a, c, 0 takes the action a and goes on in the context c. 0, 0, 0, 0 stops:\n/// no rule matches.\nstatic STEPS: &[usize] = &[\n"
steps_head_text Python =
    codes "# The steps of a decision, four numbers each. 1, f, s, t asks for the fluent f and goes on at the step s if\n# it is true, else at t. 2, a, c, 0 takes the action a and goes on in the context c. 0, 0, 0, 0 stops: no\n# rule matches.\n_STEPS = [\n"

-- what stands before the starts
unfoldable pub starts_head_text : Language → List ℕ
starts_head_text C =
    codes "    0\n};\n\n/* The step where the decision of each context begins. */\nstatic const int @_starts[] = {\n"
starts_head_text Rust =
    codes "];\n\n/// The step where the decision of each context begins.\nstatic STARTS: &[usize] = &[\n"
starts_head_text Python =
    codes "]\n\n# The step where the decision of each context begins.\n_STARTS = [\n"

-- what stands after the starts
unfoldable pub steps_tail_text : Language → List ℕ
steps_tail_text C =
    codes "    0\n};\n\n/* Follows the steps of the context. */\nstatic inline struct @_decision @_decide(const unsigned char *state, int context)\n{\n    struct @_decision decision = {@_outside, -1, context};\n    const int *step;\n    if (context < 1 || context > @_contexts)\n        return decision;\n    step = @_steps + 4 * @_starts[context - 1];\n    while (step[0] == 1)\n        step = @_steps + 4 * (state[step[1]] != 0 ? step[2] : step[3]);\n    if (step[0] == 2) {\n        decision.answer = @_act;\n        decision.action = step[1];\n        decision.next = step[2];\n    } else if (@_is_goal(state)) {\n        decision.answer = @_done;\n    }\n    return decision;\n}\n\n#endif\n"
steps_tail_text Rust =
    codes "];\n\n/// What is to be done, and the context in which to go on, by the steps of the context.\npub fn decide(state: &[bool], context: usize) -> (Answer, usize) {\n    if context < 1 || context > CONTEXTS {\n        return (Answer::Outside, context);\n    }\n    let mut place = 4 * STARTS[context - 1];\n    while STEPS[place] == 1 {\n        place = 4 * if state[STEPS[place + 1]] { STEPS[place + 2] } else { STEPS[place + 3] };\n    }\n    if STEPS[place] == 2 {\n        return (Answer::Act(STEPS[place + 1]), STEPS[place + 2]);\n    }\n    (if is_goal(state) { Answer::Done } else { Answer::Outside }, context)\n}\n"
steps_tail_text Python =
    codes "]\n\n\ndef decide(state, context):\n    \"\"\"The answer, the action (None without one) and the context in which to go on, by the steps of the\n    context.\n    \"\"\"\n    if not 1 <= context <= _CONTEXTS:\n        return OUTSIDE, None, context\n    place = 4 * _STARTS[context - 1]\n    while _STEPS[place] == 1:\n        place = 4 * _STEPS[place + (2 if state[_STEPS[place + 1]] else 3)]\n    if _STEPS[place] == 2:\n        return ACT, _STEPS[place + 1], _STEPS[place + 2]\n    return DONE if is_goal(state) else OUTSIDE, None, context\n"
