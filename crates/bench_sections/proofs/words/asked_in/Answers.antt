use Rattle.std.proofs.Common.{◌≡◌, rules, tests, arith, string_bytes}
use Rattle.bench_sections.proofs.Telling.{told, told_once, five_ask, five_asked}
use Rattle.bench_sections.proofs.words.asked_in.Goals as goal
use Rattle.bench_sections.proofs.words.asked_in.Goals.{then-threads-eq0-via-then-threads-eq0, then-threads-eq0-via-else-threads-eq0+then-threads-gt-SEATS, then-threads-eq0-via-else-threads-eq0+else-threads-gt-SEATS+then-from-gt-RESOURCES}

pub returns-clause-asked : goal.returns-clause-asked
returns-clause-asked c =
    let threads = told 8 (string_bytes c.threads-item.result) c.parse.result c.in_ok-threads.threads (search rules) (search rules) in
    let sections = told 32 (string_bytes c.sections-item.result) c.parse-2.result c.in_ok-sections.sections (search rules) (search rules) in
    let resources = told 8 (string_bytes c.resources-item.result) c.parse-3.result c.in_ok-resources.resources (search rules) (search rules) in
    five_ask string_bytes c.args.words.now c.threads-item.result c.sections-item.result c.resources-item.result c.place-item.result _ (omega (arith, c.in-len5.len_at_least, c.in-len5.len_below)) c.threads-item.is c.sections-item.is c.resources-item.is c.place-item.is
    (record {
      threads_are = threads.0;
      some = search (rules, tests);
      seats = omega arith;
      sections_are = sections.0;
      fits = sections.1;
      resources_are = resources.0;
      few = search (rules, tests);
      apart_is = search rules;
      reads_is = search rules;
    })

pub returns-then-threads-eq0-clause-none : goal.returns-then-threads-eq0-clause-none
returns-then-threads-eq0-clause-none c = λ none asked is.
    let by =
    five_asked string_bytes c.args.words.now c.threads-item.result c.sections-item.result c.resources-item.result c.place-item.result asked (omega (arith, c.in-len5.len_at_least, c.in-len5.len_below)) c.threads-item.is
    c.sections-item.is c.resources-item.is c.place-item.is is in
    let threads : asked.threads ≡ c.in_ok-threads.threads = told_once 8 (string_bytes c.threads-item.result) c.parse.result c.in_ok-threads.threads asked.threads (search rules) (search rules) by.threads_are in
    let resources : asked.resources ≡ c.in_ok-resources.resources = told_once 8 (string_bytes c.resources-item.result) c.parse-3.result c.in_ok-resources.resources asked.resources (search rules) (search rules) by.resources_are in
    elim c.then-threads-eq0.branch [
      | then-threads-eq0-via-then-threads-eq0 w ↦ omega (arith, threads, by.some, w.if-threads-eq0.true)
      | then-threads-eq0-via-else-threads-eq0+then-threads-gt-SEATS w ↦ omega (arith, threads, by.seats, w.if-threads-gt-SEATS.true)
      | then-threads-eq0-via-else-threads-eq0+else-threads-gt-SEATS+then-from-gt-RESOURCES w ↦ omega (arith, resources, by.few, w.from.ensures, w.if-from-gt-RESOURCES.true)
    ]
