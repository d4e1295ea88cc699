use Rattle.std.proofs.Common.{refl}
use Rattle.equality_steps.specs.declared.site.Site.{Site}
use Rattle.elaboration.specs.Elaborated.{IsSiteOf}
use Rattle.elaboration.proofs.OneSite.{job_there, relinking_is, relinking_lacks, relinking_places, rule_there}
use Rattle.elaboration.proofs.replacing.relinked.Goals as goal

pub relinked_at-requires-clause-job : goal.relinked_at-requires-clause-job
relinked_at-requires-clause-job c =
    let r = c.args.replacements.now in
    let p : Site = record { alloc = c.args.alloc; symbols = r.symbols; proof = c.args.proof; command = c.args.i; asserted = c.assertions_of.result } in
    let is : IsSiteOf r.symbols.now r.problem.now.assertions c.args.proof.now c.args.i p =
    record { symbols = refl; proof = refl; command = refl; assertions = c.assertions_of.ensures } in
    job_there r.symbols.now c.leaves_differ.ensures.table c.args.terms.now c.one_to_one.ensures r.problem.now.assertions c.args.proof.now r.strict.now
    c.requires.fits c.args.i c.requires.inside c.requires.relinked p is

pub relinked_at-requires-clause-rule : goal.relinked_at-requires-clause-rule
relinked_at-requires-clause-rule c =
    let r = c.args.replacements.now in
    let p : Site = record { alloc = c.args.alloc; symbols = r.symbols; proof = c.args.proof; command = c.args.i; asserted = c.assertions_of.result } in
    let is : IsSiteOf r.symbols.now r.problem.now.assertions c.args.proof.now c.args.i p =
    record { symbols = refl; proof = refl; command = refl; assertions = c.assertions_of.ensures } in
    rule_there r.symbols.now c.leaves_differ.ensures.table c.args.terms.now c.one_to_one.ensures r.problem.now.assertions c.args.proof.now r.strict.now
    c.requires.fits c.args.i c.requires.inside c.requires.relinked p is

pub returns-in-Ok-clause-relinked : goal.returns-in-Ok-clause-relinked
returns-in-Ok-clause-relinked c =
    let r = c.args.replacements.now in
    let p : Site = record { alloc = c.args.alloc; symbols = r.symbols; proof = c.args.proof; command = c.args.i; asserted = c.assertions_of.result } in
    let is : IsSiteOf r.symbols.now r.problem.now.assertions c.args.proof.now c.args.i p =
    record { symbols = refl; proof = refl; command = refl; assertions = c.assertions_of.ensures } in
    relinking_is r.symbols.now c.leaves_differ.ensures.table c.args.terms.now c.one_to_one.ensures r.problem.now.assertions c.args.proof.now r.strict.now
    c.requires.fits c.args.i c.requires.inside c.requires.relinked p is
    c.relinked_at.new.terms c.relinked_at.ensures.keeps c.in-Ok.block.items c.in-Ok.ensures.made

pub returns-in-Ok-clause-places : goal.returns-in-Ok-clause-places
returns-in-Ok-clause-places c =
    let r = c.args.replacements.now in
    let p : Site = record { alloc = c.args.alloc; symbols = r.symbols; proof = c.args.proof; command = c.args.i; asserted = c.assertions_of.result } in
    let is : IsSiteOf r.symbols.now r.problem.now.assertions c.args.proof.now c.args.i p =
    record { symbols = refl; proof = refl; command = refl; assertions = c.assertions_of.ensures } in
    relinking_places r.symbols.now c.leaves_differ.ensures.table c.args.terms.now c.one_to_one.ensures r.problem.now.assertions c.args.proof.now r.strict.now
    c.requires.fits c.args.i c.requires.inside c.requires.relinked p is
    c.relinked_at.new.terms c.relinked_at.ensures.keeps c.relinked_at.ensures.placed

pub returns-in-Err-clause-places : goal.returns-in-Err-clause-places
returns-in-Err-clause-places c =
    let r = c.args.replacements.now in
    let p : Site = record { alloc = c.args.alloc; symbols = r.symbols; proof = c.args.proof; command = c.args.i; asserted = c.assertions_of.result } in
    let is : IsSiteOf r.symbols.now r.problem.now.assertions c.args.proof.now c.args.i p =
    record { symbols = refl; proof = refl; command = refl; assertions = c.assertions_of.ensures } in
    relinking_places r.symbols.now c.leaves_differ.ensures.table c.args.terms.now c.one_to_one.ensures r.problem.now.assertions c.args.proof.now r.strict.now
    c.requires.fits c.args.i c.requires.inside c.requires.relinked p is
    c.relinked_at.new.terms c.relinked_at.ensures.keeps c.relinked_at.ensures.placed

pub returns-in-Err-clause-full : goal.returns-in-Err-clause-full
returns-in-Err-clause-full c full =
    let r = c.args.replacements.now in
    let p : Site = record { alloc = c.args.alloc; symbols = r.symbols; proof = c.args.proof; command = c.args.i; asserted = c.assertions_of.result } in
    let is : IsSiteOf r.symbols.now r.problem.now.assertions c.args.proof.now c.args.i p =
    record { symbols = refl; proof = refl; command = refl; assertions = c.assertions_of.ensures } in
    relinking_lacks r.symbols.now c.leaves_differ.ensures.table c.args.terms.now c.one_to_one.ensures r.problem.now.assertions c.args.proof.now r.strict.now
    c.requires.fits c.args.i c.requires.inside c.requires.relinked p is
    c.relinked_at.new.terms c.relinked_at.ensures.keeps (c.in-Err.ensures.full full)
