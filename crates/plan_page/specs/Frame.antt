-- What stands around the data of a page and the run that is handed in. `page/make` wrote this file.
use Rattle.std.specs.Prelude.{ℕ, List, codes}

-- the head, up to the element of the data
unfoldable pub head_text : List ℕ
head_text =
    codes "<!doctype html>\n<html lang=\"en\">\n<head>\n<meta charset=\"utf-8\">\n<meta name=\"viewport\" content=\"width=device-width, initial-scale=1\">\n<meta http-equiv=\"Content-Security-Policy\" content=\"default-src 'none'; script-src 'unsafe-inline'; style-src 'unsafe-inline'\">\n<title>A plan to step through</title>\n<style>\n:root {\n  color-scheme: light dark;\n  --paper: #ffffff;\n  --ink: #1b1f24;\n  --soft: #57606a;\n  --line: #c4ccd4;\n  --panel: #f5f7f9;\n  --accent: #0a58ca;\n  --lit: #d7e6ff;\n  --good: #116329;\n  --bad: #b3121f;\n  --witness: #8a4b00;\n}\n@media (prefers-color-scheme: dark) {\n  :root {\n    --paper: #14181d;\n    --ink: #e6eaee;\n    --soft: #a3adb8;\n    --line: #3d4650;\n    --panel: #1c2229;\n    --accent: #7ab7ff;\n    --lit: #1f3a5f;\n    --good: #6fdd8b;\n    --bad: #ff8b86;\n    --witness: #ffb454;\n  }\n}\n* {\n  box-sizing: border-box;\n}\nbody {\n  margin: 0 auto;\n  max-width: 80rem;\n  padding: 0.75rem;\n  background: var(--paper);\n  color: var(--ink);\n  font: 1rem/1.45 system-ui, sans-serif;\n}\nh1 {\n  margin: 0;\n  font-size: 1.35rem;\n}\nh2 {\n  margin: 0 0 0.4rem;\n  font-size: 1.1rem;\n}\nh3 {\n  margin: 0.6rem 0 0.1rem;\n  font-size: 0.95rem;\n  color: var(--soft);\n}\np {\n  margin: 0.35rem 0;\n}\nmain {\n  display: grid;\n  grid-template-columns: repeat(auto-fit, minmax(min(100%, 22rem), 1fr));\n  gap: 0.75rem;\n}\nsection {\n  min-width: 0;\n  padding: 0.75rem;\n  border: 1px solid var(--line);\n  border-radius: 0.5rem;\n  background: var(--panel);\n}\n#map {\n  grid-column: 1 / -1;\n  order: 1;\n}\n#search {\n  order: 2;\n  grid-column: 1 / -1;\n}\n#news {\n  min-height: 1.45em;\n  color: var(--soft);\n}\ncode,\n.name,\n.rules li,\n#record {\n  font-family: ui-monospace, monospace;\n  font-size: 0.92em;\n  overflow-wrap: anywhere;\n}\nul,\nol {\n  margin: 0.2rem 0;\n  padding-left: 1.4rem;\n}\n#fluents ul,\n#gone ul,\n#found,\n#rules ul {\n  list-style: none;\n  padding-left: 0.3rem;\n}\n#sentence {\n  white-space: pre-line;\n}\n#steps {\n  padding-left: 2.6rem;\n  max-height: 16rem;\n  overflow: auto;\n}\n.added {\n  color: var(--good);\n  font-weight: 600;\n}\n.removed,\n.bad {\n  color: var(--bad);\n  font-weight: 600;\n}\n.soft {\n  color: var(--soft);\n}\n.rule {\n  margin: 0.4rem 0;\n  padding: 0.4rem 0.6rem;\n  border-left: 3px solid var(--accent);\n  background: var(--paper);\n}\nbutton,\ninput,\nselect {\n  max-width: 100%;\n  padding: 0.35rem 0.6rem;\n  border: 1px solid var(--line);\n  border-radius: 0.35rem;\n  background: var(--paper);\n  color: var(--ink);\n  font: inherit;\n}\nbutton {\n  cursor: pointer;\n  text-align: left;\n}\nbutton:disabled {\n  cursor: default;\n  color: var(--soft);\n}\nbutton:focus-visible,\ninput:focus-visible,\nselect:focus-visible,\nsummary:focus-visible,\nsvg [tabindex]:focus-visible {\n  outline: 3px solid var(--accent);\n  outline-offset: 1px;\n}\n.outcome,\n.plain {\n  width: 100%;\n  margin: 0.15rem 0;\n}\n.here {\n  border-color: var(--accent);\n  border-width: 2px;\n}\n.witness {\n  border-left: 4px solid var(--witness);\n}\n.key {\n  display: inline-block;\n  min-width: 1.5em;\n  margin-right: 0.4em;\n  border: 1px solid var(--line);\n  border-radius: 0.25rem;\n  text-align: center;\n}\n.buttons {\n  display: flex;\n  flex-wrap: wrap;\n  gap: 0.35rem;\n}\n#record,\n#query {\n  flex: 1 1 12rem;\n  width: 100%;\n  min-width: 0;\n}\n#drawing {\n  display: block;\n  width: 100%;\n  height: 24rem;\n  border: 1px solid var(--line);\n  border-radius: 0.35rem;\n  background: var(--paper);\n  cursor: grab;\n  touch-action: none;\n}\n#drawing text {\n  fill: var(--ink);\n  font-size: 13px;\n  text-anchor: middle;\n  pointer-events: none;\n}\n#drawing .node {\n  cursor: pointer;\n}\n#drawing .shape {\n  fill: var(--paper);\n  stroke: var(--ink);\n  stroke-width: 1.2;\n}\n#drawing .inner {\n  fill: none;\n  stroke: var(--ink);\n}\n#drawing .lit .shape {\n  fill: var(--lit);\n}\n#drawing .current .shape {\n  stroke: var(--accent);\n  stroke-width: 4;\n}\n#drawing .stopped .shape {\n  stroke: var(--bad);\n  stroke-width: 2.5;\n  stroke-dasharray: 5 3;\n}\n#drawing .stopped text {\n  fill: var(--bad);\n  font-weight: 700;\n}\n#drawing .edge {\n  fill: none;\n  stroke: var(--soft);\n  stroke-width: 1.3;\n}\n#drawing .edge.onward {\n  stroke: var(--accent);\n  stroke-width: 2.2;\n}\n#drawing .edge.witness {\n  stroke: var(--witness);\n  stroke-width: 3.5;\n  stroke-dasharray: 9 4;\n}\nmarker path {\n  fill: context-stroke;\n}\n#start {\n  width: 7rem;\n}\n.legend,\n.keys {\n  color: var(--soft);\n  font-size: 0.88rem;\n}\n.hidden {\n  position: absolute;\n  width: 1px;\n  height: 1px;\n  overflow: hidden;\n  clip-path: inset(50%);\n}\n</style>\n</head>\n<body>\n<header>\n<h1>A plan to step through</h1>\n<p id=\"counts\"></p>\n<details id=\"unused\"><summary id=\"unused-count\"></summary><ul id=\"unused-rules\" class=\"rules\"></ul></details>\n</header>\n<noscript><p>This page needs JavaScript. It loads nothing from elsewhere.</p></noscript>\n<p id=\"news\" role=\"status\" aria-live=\"polite\"></p>\n<main>\n<section id=\"state\" aria-labelledby=\"state-title\">\n<h2 id=\"state-title\">State</h2>\n<p id=\"place\"></p>\n<div id=\"fluents\"></div>\n<div id=\"gone\"></div>\n</section>\n<section id=\"choice\" aria-labelledby=\"choice-title\">\n<h2 id=\"choice-title\">What the plan does here</h2>\n<p id=\"verdict\" class=\"bad\"></p>\n<div id=\"rules\"></div>\n</section>\n<section id=\"run\" aria-labelledby=\"run-title\">\n<h2 id=\"run-title\">Run</h2>\n<p><label for=\"start\">Begin in initial state</label> <input id=\"start\" type=\"number\" min=\"0\"> <span id=\"start-last\"></span></p>\n<p class=\"buttons\">\n<button type=\"button\" id=\"back\" aria-keyshortcuts=\"Backspace\">Back</button>\n<button type=\"button\" id=\"restart\">Restart</button>\n<button type=\"button\" id=\"random\">Random run</button>\n<button type=\"button\" id=\"goal\">Shortest run to the goal</button>\n</p>\n<ol id=\"steps\" start=\"0\"></ol>\n<p><label for=\"record\">Record of this run, for <code>mbp replay</code></label></p>\n<p class=\"buttons\"><input id=\"record\" readonly spellcheck=\"false\"> <button type=\"button\" id=\"copy\">Copy</button></p>\n<p id=\"record-note\"></p>\n<details>\n<summary>Play a run from a file</summary>\n<p><label for=\"witness\">Explanation as <code>pulgazer explain --json</code> prints it</label> <input type=\"file\" id=\"witness\" accept=\".json,application/json\"></p>\n</details>\n<p id=\"sentence\"></p>\n</section>\n<section id=\"map\" aria-labelledby=\"map-title\">\n<h2 id=\"map-title\">Map</h2>\n<p class=\"buttons\">\n<button type=\"button\" id=\"zoom-in\" aria-label=\"Zoom in\">+</button>\n<button type=\"button\" id=\"zoom-out\" aria-label=\"Zoom out\">&minus;</button>\n<button type=\"button\" id=\"zoom-reset\">Whole map</button>\n</p>\n<svg class=\"hidden\" aria-hidden=\"true\"><marker id=\"arrow\" refX=\"7\" refY=\"4\" markerWidth=\"9\" markerHeight=\"9\" markerUnits=\"userSpaceOnUse\" orient=\"auto\"><path d=\"M0 0L8 4L0 8z\"/></marker></svg>\n<svg id=\"drawing\" role=\"group\" aria-label=\"Configurations within two steps\"></svg>\n<p class=\"legend\">Thick border: here. Box: initial. Double border: goal. Filled: on this run. Thick dashed arrow: on the run that was loaded, which &ldquo;&#9670;&rdquo; marks in the lists. Dashed with &ldquo;!&rdquo;: stuck. Dashed with &ldquo;&times;&rdquo;: the action can't be executed. Drag to move, turn the wheel to zoom.</p>\n</section>\n<section id=\"search\" aria-labelledby=\"search-title\">\n<h2 id=\"search-title\">Search</h2>\n<p><label for=\"query\">Fluents and actions, such as <code>(spilled)</code> or <code>-(at kitchen)</code></label></p>\n<p><input id=\"query\" type=\"search\" list=\"names\" autocomplete=\"off\" spellcheck=\"false\"></p>\n<datalist id=\"names\"></datalist>\n<p id=\"found-count\" role=\"status\"></p>\n<ul id=\"found\"></ul>\n</section>\n</main>\n<p class=\"keys\">Keys: 1 to 9 take an outcome, Backspace goes back.</p>\n<script type=\"application/json\" id=\"data\">"

-- the end of that element, and the one of the run
unfoldable pub middle_text : List ℕ
middle_text =
    codes "</script>\n<script type=\"application/json\" id=\"handed\">"

-- the end of that element, and the script
unfoldable pub tail_text : List ℕ
tail_text =
    codes "</script>\n<script>\n\"use strict\";\n\n// The data: names of fluents and actions, how many outcomes each action has, the rules of the plan,\n// and a node for each configuration (a state with a context) that the plan may reach: first the\n// initial states, as `mbp replay` counts them. Places in these lists are the numbers by which all\n// else speaks of them. And the explanation that was handed in, or null.\nconst data = JSON.parse(document.getElementById(\"data\").textContent);\nconst handed = JSON.parse(document.getElementById(\"handed\").textContent);\nconst { nodes, rules } = data;\nconst isTable = data.class !== \"ctl\";\nconst initialCount = nodes.filter((node) => node.initial).length;\nconst MINUS = \"\\u2212\";\nconst MOST_RANDOM_STEPS = 50;\nconst MOST_LISTED = 500;\nconst MOST_FOUND = 50;\n\n// ---- Elements. A name gets into the page as a text node or an attribute, never as HTML.\n\nconst byId = (id) => document.getElementById(id);\nconst show = (id, ...children) => byId(id).replaceChildren(...children);\nconst joined = (parts, between) => parts.filter(Boolean).join(between);\nconst kinds = (...names) => joined(names, \" \");\nconst counted = (count, word) => `${count} ${word}${count === 1 ? \"\" : \"s\"}`;\n\nfunction fill(element, attributes, children) {\n  for (const [key, value] of Object.entries(attributes)) {\n    if (key.startsWith(\"on\")) element.addEventListener(key.slice(2), value);\n    else if (value !== false) element.setAttribute(key, value);\n  }\n  element.append(...children);\n  return element;\n}\n\nconst make = (tag, attributes, ...children) =>\n  fill(document.createElement(tag), attributes, children);\nconst draw = (tag, attributes, ...children) =>\n  fill(document.createElementNS(\"http://www.w3.org/2000/svg\", tag), attributes, children);\n\n// ---- The plan\n\nconst truths = nodes.map((node) => new Set(node.true));\nconst isTrue = (at, fluent) => truths[at].has(fluent);\nconst matches = (literals, at) => literals.every(([fluent, value]) => isTrue(at, fluent) === value);\n\nconst fluentName = (fluent) => data.fluents[fluent];\nconst denied = (text) => `(not ${text})`;\nconst literalText = ([fluent, value]) => (value ? fluentName(fluent) : denied(fluentName(fluent)));\nconst cubeText = (literals) => `(${literals.map(literalText).join(\" \")})`;\nconst caseText = ([literals, context]) => `(${cubeText(literals)} ${context})`;\nconst nextText = (next) => (Array.isArray(next) ? `(${next.map(caseText).join(\" \")})` : next);\nconst stateText = (at) => nodes[at].true.map(fluentName).join(\" \") || \"()\";\nconst contextText = (at) => (isTable ? \"\" : ` in context ${nodes[at].context}`);\nconst nodeText = (at) => `#${at}${contextText(at)}: ${stateText(at)}`;\n\n// A rule as the text of a plan has it.\nfunction ruleText({ action, context, literals, next }) {\n  const asked = `${cubeText(literals)} ${data.actions[action]}`;\n  return isTable ? `(rule ${asked})` : `(rule ${context} ${asked} ${nextText(next)})`;\n}\n\n// What the plan may do at a node: for each action that it has there the first rule that matches. A\n// plan with contexts has one at most. The first of all is the one that `mbp replay` takes.\nconst choicesKept = [];\nconst choicesAt = (at) => (choicesKept[at] ??= findChoices(at));\n\nfunction findChoices(at) {\n  const { context, steps } = nodes[at];\n  const choices = [];\n  for (const [number, { action, context: wanted, literals }] of rules.entries()) {\n    if (wanted !== context || !matches(literals, at)) continue;\n    if (choices.some((choice) => choice.action === action)) continue;\n    const taken = steps.filter((step) => step[0] === action);\n    choices.push({ action, rule: number, steps: taken });\n    if (!isTable) break;\n  }\n  return choices;\n}\n\n// What is wrong at a node, if anything: a sign for the map, and a sentence.\nfunction troubleAt(at) {\n  const choices = choicesAt(at);\n  if (choices.length === 0) {\n    if (isTable && nodes[at].goal) return null;\n    const also = isTable ? \", and this is no goal state\" : \"\";\n    return { sign: \"!\", text: `Stuck: no rule matches${also}.` };\n  }\n  const blocked = choices.find((choice) => choice.steps.length === 0);\n  if (blocked === undefined) return null;\n  const name = data.actions[blocked.action];\n  const isOpen = Array.isArray(rules[blocked.rule].next);\n  const also = isOpen ? \", or the rule has no next context for any outcome\" : \"\";\n  return { sign: \"\\u00d7\", text: `Can't be followed: ${name} can't be executed here${also}.` };\n}\n\n// What becomes true and false from one node to another.\nfunction changes(from, to) {\n  const added = nodes[to].true.filter((fluent) => !isTrue(from, fluent));\n  const removed = nodes[from].true.filter((fluent) => !isTrue(to, fluent));\n  return { added, removed, context: nodes[from].context !== nodes[to].context };\n}\n\nfunction changeText(from, to) {\n  const { added, removed, context } = changes(from, to);\n  const parts = added.map((fluent) => `+ ${fluentName(fluent)}`);\n  parts.push(...removed.map((fluent) => `${MINUS} ${fluentName(fluent)}`));\n  if (context) parts.push(`context ${nodes[to].context}`);\n  return parts.length === 0 ? \"no change\" : parts.join(\"  \");\n}\n\n// ---- The run: an initial state, and steps, each with the rule that was followed\n\nconst run = { start: 0, steps: [] };\nconst isInitial = (number) => Number.isInteger(number) && nodes[number]?.initial === true;\nconst current = () => (run.steps.length === 0 ? run.start : run.steps.at(-1).to);\n\nconst edgeKey = (from, action, outcome) => `${from} ${action} ${outcome}`;\nconst madeStep = (from, choice, [action, outcome, to]) => {\n  const isFirst = choice === choicesAt(from)[0];\n  return { from, to, action, outcome, isFirst, key: edgeKey(from, action, outcome) };\n};\n\nfunction begin(start, steps, news) {\n  Object.assign(run, { start, steps });\n  render(news);\n}\n\nfunction take(choice, step) {\n  const made = madeStep(current(), choice, step);\n  run.steps.push(made);\n  const change = changeText(made.from, made.to);\n  const name = data.actions[made.action];\n  render(`Step ${run.steps.length}: ${name}, outcome ${made.outcome}: ${change}.`);\n}\n\nfunction goBack(length) {\n  if (length < 0 || length > run.steps.length) return;\n  run.steps.length = length;\n  render(`Back to ${length === 0 ? \"the initial state\" : `step ${length}`}.`);\n}\n\n// The steps from a node that `mbp replay` may make; or all of them.\nconst onward = (at, all) =>\n  (all ? choicesAt(at) : choicesAt(at).slice(0, 1)).flatMap((choice) =>\n    choice.steps.map((step) => madeStep(at, choice, step)),\n  );\n\n// The shortest steps from one of the first nodes to one that is wanted, or null.\nfunction shortest(firsts, isWanted, all) {\n  const before = new Map(firsts.map((at) => [at, null]));\n  // Nodes that are added meanwhile are visited, too.\n  for (const at of before.keys()) {\n    if (isWanted(at)) return stepsBack(before, at);\n    for (const step of onward(at, all)) {\n      if (!before.has(step.to)) before.set(step.to, step);\n    }\n  }\n  return null;\n}\n\nfunction stepsBack(before, last) {\n  const steps = [];\n  for (let step = before.get(last); step !== null; step = before.get(step.from)) steps.push(step);\n  return { start: steps.length === 0 ? last : steps.at(-1).from, steps: steps.reverse() };\n}\n\n// A path that `mbp replay` can run, if there is one; else any.\nconst path = (firsts, isWanted) =>\n  shortest(firsts, isWanted, false) ?? shortest(firsts, isWanted, true);\n\nfunction goOn(steps, what) {\n  run.steps.push(...steps);\n  render(`${counted(steps.length, \"step\")} ${what}.`);\n}\n\nfunction runToGoal() {\n  const found = path([current()], (at) => nodes[at].goal);\n  if (found === null) render(\"The plan reaches no goal state from here.\");\n  else goOn(found.steps, \"to the nearest goal state\");\n}\n\nfunction runAtRandom() {\n  const made = [];\n  for (let at = current(); made.length < MOST_RANDOM_STEPS; at = made.at(-1).to) {\n    const steps = onward(at, false);\n    if (steps.length === 0) break;\n    made.push(steps[Math.floor(Math.random() * steps.length)]);\n  }\n  goOn(made, \"at random\");\n}\n\n// Begins a shortest run that ends at the node.\nfunction runTo(at) {\n  const firsts = Array.from({ length: initialCount }, (_, number) => number);\n  const { start, steps } = path(firsts, (other) => other === at);\n  begin(start, steps, `A shortest run to configuration #${at}.`);\n}\n\n// ---- An explanation that was made elsewhere: a verdict, and a run that shows it\n\nconst WITNESS = \"\\u25c6\";\nconst witness = { start: 0, steps: [], edges: new Set() };\nconst isOnWitness = (from, action, outcome) => witness.edges.has(edgeKey(from, action, outcome));\n\n// Whether the run that is shown is the witness up to here.\nconst isWitness = () =>\n  run.start === witness.start && run.steps.every(({ key }, i) => key === witness.steps[i]?.key);\n\n// The steps of an explanation: its rules and outcomes are numbers from 0. Where the rules are\n// missing, the first rule that matches is taken.\nfunction stepsOf({ initial, outcomes, rules: numbers }) {\n  if (!isInitial(initial)) throw new Error(\"it begins in no initial state\");\n  const steps = [];\n  let at = initial;\n  for (const outcome of outcomes) {\n    const rule = rules[numbers?.[steps.length]];\n    const choice = choicesAt(at).find((one) => rule === undefined || one.action === rule.action);\n    const step = choice?.steps.find((one) => one[1] === outcome);\n    if (step === undefined) throw new Error(`the plan has no such step ${steps.length + 1}`);\n    steps.push(madeStep(at, choice, step));\n    at = step[2];\n  }\n  return steps;\n}\n\nfunction play(explanation) {\n  const { verdict, initial, cycle_from: cycleFrom, sentence } = explanation;\n  const hasRun = initial !== null;\n  const steps = hasRun ? stepsOf(explanation) : [];\n  const edges = new Set(steps.map((step) => step.key));\n  Object.assign(witness, { start: initial ?? 0, steps, edges });\n  const told = typeof verdict === \"string\" && `Verdict: ${verdict}.`;\n  const round = Number.isInteger(cycleFrom) && `It repeats from step ${cycleFrom + 1} on.`;\n  const missing = !hasRun && \"No run shows this verdict.\";\n  byId(\"sentence\").textContent = joined([told, sentence, round, missing], \" \");\n  if (hasRun) begin(initial, [...steps], `A run of ${counted(steps.length, \"step\")} was loaded.`);\n  else render(\"An explanation without a run was loaded.\");\n}\n\nfunction tryToPlay(read) {\n  try {\n    play(read());\n  } catch (error) {\n    render(`This run can't be played: ${error.message}.`);\n  }\n}\n\n// ---- What is shown of the run\n\nfunction render(news) {\n  const hadFocus = byId(\"rules\").contains(document.activeElement);\n  showState();\n  showChoices();\n  showRun();\n  drawMap();\n  byId(\"news\").textContent = news;\n  if (hadFocus) byId(\"rules\").querySelector(\"button\")?.focus();\n}\n\n// The word that a name begins with: its predicate.\nconst predicate = (name) => /^\\(?([^\\s()]*)/.exec(name)[1];\n\nfunction marked(kind, sign, word, fluent) {\n  const mark = make(\"span\", { class: kind, \"aria-hidden\": \"true\" }, `${sign} `);\n  const spoken = make(\"span\", { class: \"hidden\" }, ` ${word}`);\n  return make(\"li\", { class: \"name\" }, mark, fluentName(fluent), spoken);\n}\n\nfunction showState() {\n  const at = current();\n  const { added, removed } = changes(run.steps.at(-1)?.from ?? at, at);\n  const { context, initial, goal } = nodes[at];\n  const turn = !isTable && `context ${context} of ${data.contexts}`;\n  const marks = [`Configuration #${at}`, turn, initial && \"initial state\", goal && \"goal state\"];\n  show(\"place\", joined(marks, \", \"));\n  const groups = Map.groupBy(nodes[at].true, (fluent) => predicate(fluentName(fluent)));\n  const shown = [...groups].flatMap(([key, fluents]) => [\n    make(\"h3\", {}, key),\n    make(\"ul\", {}, ...fluents.map((fluent) => fluentItem(fluent, added))),\n  ]);\n  show(\"fluents\", ...(shown.length === 0 ? [make(\"p\", {}, \"No fluent is true.\")] : shown));\n  const gone = removed.map((fluent) => marked(\"removed\", MINUS, \"became false\", fluent));\n  const title = make(\"h3\", {}, \"No longer true\");\n  show(\"gone\", ...(gone.length === 0 ? [] : [title, make(\"ul\", {}, ...gone)]));\n}\n\nfunction fluentItem(fluent, added) {\n  if (added.includes(fluent)) return marked(\"added\", \"+\", \"became true\", fluent);\n  return make(\"li\", { class: \"name\" }, fluentName(fluent));\n}\n\nfunction showChoices() {\n  const at = current();\n  const trouble = troubleAt(at);\n  show(\"verdict\", trouble === null ? \"\" : `${trouble.sign} ${trouble.text}`);\n  const ends = make(\"p\", {}, \"No rule matches: the run ends here, in a goal state.\");\n  let key = 0;\n  const shown = choicesAt(at).flatMap((choice, place) => {\n    const rule = make(\"p\", { class: \"rule\" }, make(\"code\", {}, ruleText(rules[choice.rule])));\n    const number = `Rule ${choice.rule + 1} of ${rules.length}`;\n    const title = place === 0 ? number : `${number} matches too (mbp replay takes the first)`;\n    const action = make(\"p\", {}, \"Action \", make(\"code\", {}, data.actions[choice.action]));\n    const list = outcomeItems(at, choice, () => ++key);\n    return [make(\"h3\", {}, title), rule, action, make(\"ul\", {}, ...list)];\n  });\n  show(\"rules\", ...(shown.length === 0 && trouble === null ? [ends] : shown));\n}\n\nfunction outcomeItems(at, choice, nextKey) {\n  if (choice.steps.length === 0) return [];\n  const isOpen = Array.isArray(rules[choice.rule].next);\n  const why = isOpen ? \"no state, or none for which the rule has a next context\" : \"no state\";\n  return Array.from({ length: data.outcomes[choice.action] }, (_, outcome) => {\n    const step = choice.steps.find((one) => one[1] === outcome);\n    if (step !== undefined) return outcomeItem(at, choice, step, nextKey());\n    return make(\"li\", { class: \"soft\" }, `outcome ${outcome} leads to ${why}`);\n  });\n}\n\nfunction outcomeItem(at, choice, step, key) {\n  const isNext = isWitness() && isOnWitness(at, step[0], step[1]);\n  const kind = kinds(\"outcome\", isNext && \"witness\");\n  const names = { type: \"button\", class: kind, \"aria-keyshortcuts\": key < 10 && key };\n  const sign = key < 10 ? [make(\"kbd\", { class: \"key\" }, key)] : [];\n  const also = isNext ? ` ${WITNESS} on the run that was loaded` : \"\";\n  const text = `outcome ${step[1]}: ${changeText(at, step[2])}${also}`;\n  const button = make(\"button\", { ...names, onclick: () => take(choice, step) }, ...sign, text);\n  return make(\"li\", {}, button);\n}\n\nfunction showRun() {\n  byId(\"start\").value = run.start;\n  byId(\"back\").disabled = run.steps.length === 0;\n  const hidden = Math.max(0, run.steps.length - MOST_LISTED);\n  const items = run.steps.slice(hidden).map(({ from, to, action, outcome }, i) => {\n    const text = `${data.actions[action]} outcome ${outcome}: ${changeText(from, to)}`;\n    const isMarked = run.start === witness.start && isOnWitness(from, action, outcome);\n    return stepItem(hidden + i + 1, text, isMarked);\n  });\n  items.unshift(stepItem(0, `initial state ${run.start}: ${stateText(run.start)}`, false));\n  if (hidden > 0) items[1].value = hidden + 1;\n  show(\"steps\", ...items);\n  byId(\"steps\").scrollTop = byId(\"steps\").scrollHeight;\n  const words = [run.start, ...run.steps.map((step) => step.outcome)];\n  byId(\"record\").value = `(record ${words.join(\" \")})`;\n  const other = run.steps.findIndex((step) => !step.isFirst);\n  byId(\"record-note\").textContent =\n    other < 0 ? \"\" : `mbp replay takes another rule at step ${other + 1}, the first that matches.`;\n}\n\nfunction stepItem(length, text, isMarked) {\n  const isHere = length === run.steps.length;\n  const kind = kinds(\"plain\", isHere && \"here\", isMarked && \"witness\");\n  const mark = { class: kind, \"aria-current\": isHere && \"step\" };\n  const button = { type: \"button\", ...mark, onclick: () => goBack(length) };\n  const sign = isMarked ? [make(\"span\", { \"aria-hidden\": \"true\" }, `${WITNESS} `)] : [];\n  return make(\"li\", {}, make(\"button\", button, ...sign, text));\n}\n\n// ---- Search: nodes that have each word in the name of a true fluent or of an action that is taken\n// there. A minus before a word turns it round.\n\nfunction search(query) {\n  const words = query.toLowerCase().match(/-?\\([^)]*\\)?|\\S+/g) ?? [];\n  const tests = words.map((word) => {\n    const isWanted = !word.startsWith(\"-\");\n    const having = (name) => name.toLowerCase().includes(isWanted ? word : word.slice(1));\n    return { isWanted, fluents: data.fluents.map(having), actions: data.actions.map(having) };\n  });\n  const has = (at, { fluents, actions, isWanted }) =>\n    isWanted ===\n    (nodes[at].true.some((one) => fluents[one]) || nodes[at].steps.some((one) => actions[one[0]]));\n  const every = words.length === 0 ? [] : [...nodes.keys()];\n  showFound(every.filter((at) => tests.every((test) => has(at, test))));\n}\n\nfunction showFound(found) {\n  const more = found.length > MOST_FOUND ? `; the first ${MOST_FOUND} are listed` : \"\";\n  show(\"found-count\", `${counted(found.length, \"configuration\")} found${more}.`);\n  const items = found.slice(0, MOST_FOUND).map((at) => {\n    const button = { type: \"button\", class: \"plain\", onclick: () => runTo(at) };\n    return make(\"li\", {}, make(\"button\", button, nodeText(at)));\n  });\n  show(\"found\", ...items);\n}\n\n// ---- Counts. They look at every node, a part at a time, so that the page answers meanwhile.\n\nfunction countAll(first, used, stopped) {\n  const last = Math.min(nodes.length, first + 500);\n  for (let at = first; at < last; at++) {\n    choicesAt(at).forEach((choice) => used.add(choice.rule));\n    if (troubleAt(at) !== null) stopped.push(at);\n  }\n  if (last < nodes.length) setTimeout(countAll, 0, last, used, stopped);\n  else showCounts(used, stopped);\n}\n\nfunction showCounts(used, stopped) {\n  const steps = nodes.reduce((sum, node) => sum + node.steps.length, 0);\n  const goals = nodes.filter((node) => node.goal).length;\n  const texts = [counted(nodes.length, \"configuration\"), counted(steps, \"step\")];\n  texts.push(counted(initialCount, \"initial state\"), `${goals} in goal states`);\n  show(\"counts\", `${texts.join(\", \")}, ${counted(rules.length, \"rule\")}. `);\n  if (stopped.length > 0) {\n    const go = { type: \"button\", id: \"stopped\", class: \"bad\", onclick: () => runTo(stopped[0]) };\n    const text = `! stuck or can't be followed in ${stopped.length}: show one`;\n    byId(\"counts\").append(make(\"button\", go, text));\n  }\n  const unused = rules.map((_, number) => number).filter((number) => !used.has(number));\n  byId(\"unused\").hidden = unused.length === 0;\n  show(\"unused-count\", `${counted(unused.length, \"rule\")} never used`);\n  const item = (number) => make(\"li\", {}, ruleText(rules[number]));\n  show(\"unused-rules\", ...unused.slice(0, MOST_LISTED).map(item));\n}\n\n// ---- Buttons and keys\n\nfunction onKey(event) {\n  const isTyping = event.target.matches?.(\"input, select, textarea\") && !event.target.readOnly;\n  if (isTyping || event.ctrlKey || event.altKey || event.metaKey) return;\n  if (event.key === \"Backspace\") {\n    event.preventDefault();\n    goBack(run.steps.length - 1);\n  } else if (/^[1-9]$/.test(event.key)) {\n    byId(\"rules\").querySelectorAll(\"button\")[Number(event.key) - 1]?.click();\n  }\n}\n\n// The way to copy that a page in a file of one's own may go.\nfunction copyRecord() {\n  byId(\"record\").select();\n  const isCopied = document.execCommand(\"copy\");\n  byId(\"news\").textContent = isCopied ? \"The record was copied.\" : \"Copy the record by hand.\";\n}\n\nfunction chooseStart() {\n  const number = Number(byId(\"start\").value);\n  if (isInitial(number)) begin(number, [], `Initial state ${number}.`);\n}\n\nfunction listen() {\n  show(\"start-last\", `of 0 to ${initialCount - 1}`);\n  byId(\"start\").addEventListener(\"change\", chooseStart);\n  byId(\"back\").addEventListener(\"click\", () => goBack(run.steps.length - 1));\n  byId(\"restart\").addEventListener(\"click\", () => goBack(0));\n  byId(\"random\").addEventListener(\"click\", runAtRandom);\n  byId(\"goal\").addEventListener(\"click\", runToGoal);\n  byId(\"copy\").addEventListener(\"click\", copyRecord);\n  byId(\"query\").addEventListener(\"input\", (event) => search(event.target.value));\n  byId(\"witness\").addEventListener(\"change\", ({ target }) =>\n    target.files[0]?.text().then((text) => tryToPlay(() => JSON.parse(text))),\n  );\n  document.addEventListener(\"keydown\", onKey);\n  const names = [...data.fluents, ...data.actions].slice(0, MOST_LISTED);\n  show(\"names\", ...names.map((name) => make(\"option\", { value: name })));\n  listenToMap();\n}\n\nfunction start() {\n  listen();\n  render(\"\");\n  if (handed !== null) tryToPlay(() => handed);\n  countAll(0, new Set(), []);\n}\n// ---- The map: who leads here, here, and what may come within two steps, a column each\n\nconst MOST_IN_COLUMN = 12;\nconst WIDE = 250;\nconst SPACE = 96;\nconst before = nodes.map(() => []);\nnodes.forEach(({ steps }, at) => steps.forEach((step) => before[step[2]].push(at)));\n\nfunction columns() {\n  const here = current();\n  const seen = new Set([here]);\n  const fresh = (list) => list.filter((at) => !seen.has(at) && seen.add(at));\n  const following = (list) => fresh(list.flatMap((at) => nodes[at].steps.map((step) => step[2])));\n  const first = following([here]);\n  const second = following(first);\n  return [fresh(before[here]), [here], first, second].filter((column) => column.length > 0);\n}\n\nconst view = {};\nconst whole = {};\nconst applyView = () =>\n  byId(\"drawing\").setAttribute(\"viewBox\", `${view.x} ${view.y} ${view.width} ${view.height}`);\n\nfunction drawMap() {\n  const places = new Map();\n  const notes = [];\n  columns().forEach((column, i) => {\n    const listed = column.slice(0, MOST_IN_COLUMN);\n    const top = (-(listed.length - 1) * SPACE) / 2;\n    listed.forEach((at, j) => places.set(at, { x: i * WIDE, y: top + j * SPACE, column: i }));\n    if (column.length > listed.length) {\n      const text = `and ${column.length - listed.length} more`;\n      notes.push(draw(\"text\", { x: i * WIDE, y: top + listed.length * SPACE - 30 }, text));\n    }\n  });\n  const visited = new Set([run.start, ...run.steps.map((step) => step.to)]);\n  const edges = [...places.keys()].flatMap((from) => edgesFrom(from, places));\n  const shapes = [...places].map(([at, place]) => nodeShape(at, place, visited));\n  show(\"drawing\", ...edges, ...shapes, ...notes);\n  const ends = [...places.values()];\n  const low = Math.max(...ends.map((place) => place.y));\n  const right = Math.max(...ends.map((place) => place.x));\n  Object.assign(whole, { x: -110, y: -low - 90, width: right + 220, height: 2 * low + 180 });\n  showWhole();\n}\n\nconst showWhole = () => applyView(Object.assign(view, whole));\n\n// The edges from a node, one for each other end, with the actions and outcomes in its title.\nfunction edgesFrom(from, places) {\n  const shown = nodes[from].steps.filter((step) => places.has(step[2]));\n  return [...Map.groupBy(shown, (step) => step[2])].map(([to, steps]) => {\n    const names = steps.map(([action, outcome]) => `${data.actions[action]} ${outcome}`);\n    const isMarked = steps.some(([action, outcome]) => isOnWitness(from, action, outcome));\n    const kind = kinds(\"edge\", from === current() && \"onward\", isMarked && \"witness\");\n    const d = edgePath(places.get(from), places.get(to));\n    const title = draw(\"title\", {}, names.join(\"\\n\"));\n    return draw(\"path\", { class: kind, d, \"marker-end\": \"url(#arrow)\" }, title);\n  });\n}\n\nfunction edgePath(from, to) {\n  if (from === to) {\n    const { x, y } = from;\n    return `M${x - 18} ${y - 27}C${x - 40} ${y - 68} ${x + 40} ${y - 68} ${x + 18} ${y - 28}`;\n  }\n  if (from.column < to.column) {\n    const middle = (from.x + to.x) / 2;\n    return `M${from.x + 80} ${from.y}C${middle} ${from.y} ${middle} ${to.y} ${to.x - 82} ${to.y}`;\n  }\n  const low = Math.max(from.y, to.y) + 62;\n  const [begins, ends] = [from.x - 20, to.x + 20];\n  return `M${begins} ${from.y + 27}C${begins} ${low} ${ends} ${low} ${ends} ${to.y + 29}`;\n}\n\nfunction nodeShape(at, { x, y }, visited) {\n  const trouble = troubleAt(at);\n  const isHere = at === current();\n  const { goal } = nodes[at];\n  const kind = kinds(\"node\", visited.has(at) && \"lit\", isHere && \"current\", trouble && \"stopped\");\n  const label = joined([nodeText(at), goal && \"goal state\", trouble?.text], \", \");\n  const change = isHere ? \"here\" : changeText(current(), at);\n  const children = [draw(\"title\", {}, label), outline(at, 80, 27, \"shape\")];\n  if (goal) children.push(outline(at, 75, 22, \"inner\"));\n  children.push(draw(\"text\", { y: -3 }, kinds(trouble?.sign, `#${at}${contextText(at)}`)));\n  children.push(draw(\"text\", { y: 13 }, shortened(change)));\n  const onclick = () => stepTo(at);\n  const onkeydown = ({ key }) => key === \"Enter\" && onclick();\n  const names = { class: kind, role: \"link\", tabindex: 0, \"aria-label\": label, onclick, onkeydown };\n  return draw(\"g\", { ...names, transform: `translate(${x} ${y})` }, ...children);\n}\n\nconst shortened = (text) => (text.length > 17 ? `${text.slice(0, 16)}\\u2026` : text);\n\nfunction outline(at, width, height, kind) {\n  const size = { width: 2 * width, height: 2 * height, rx: nodes[at].initial ? 0 : height };\n  return draw(\"rect\", { class: kind, x: -width, y: -height, ...size });\n}\n\n// Goes on to a node of the map; to one that isn't ahead by a run from the beginning.\nfunction stepTo(at) {\n  const found = path([current()], (other) => other === at);\n  if (found === null) runTo(at);\n  else if (found.steps.length > 0) goOn(found.steps, `to configuration #${at}`);\n}\n\nfunction zoom(factor) {\n  const { width, height } = view;\n  Object.assign(view, { width: width * factor, height: height * factor });\n  move((width * (1 - factor)) / 2, (height * (1 - factor)) / 2);\n}\n\nfunction move(x, y) {\n  view.x += x;\n  view.y += y;\n  applyView();\n}\n\nfunction listenToMap() {\n  const drawing = byId(\"drawing\");\n  let held = null;\n  drawing.addEventListener(\"pointerdown\", (event) => (held = event));\n  window.addEventListener(\"pointermove\", (event) => {\n    if (held === null) return;\n    const { clientWidth: width, clientHeight: height } = drawing;\n    const scale = Math.max(view.width / width, view.height / height);\n    move((held.clientX - event.clientX) * scale, (held.clientY - event.clientY) * scale);\n    held = event;\n  });\n  window.addEventListener(\"pointerup\", () => (held = null));\n  const turn = (event) => zoom(event.deltaY < 0 ? 0.85 : 1.18, event.preventDefault());\n  drawing.addEventListener(\"wheel\", turn, { passive: false });\n  byId(\"zoom-in\").addEventListener(\"click\", () => zoom(0.8));\n  byId(\"zoom-out\").addEventListener(\"click\", () => zoom(1.25));\n  byId(\"zoom-reset\").addEventListener(\"click\", showWhole);\n}\nstart();\n</script>\n</body>\n</html>\n"
