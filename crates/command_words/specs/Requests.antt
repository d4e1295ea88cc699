-- Public. What a request of the code asks for.
use Rattle.std.specs.Prelude.{◌≡◌, ◌≤◌, ℕ, true, Option, None, Some, option_map}
use Rattle.command_words.specs.declared.request.Generation.{Generation}
use Rattle.command_words.specs.declared.request.Request.{Request}
use Rattle.command_words.specs.declared.request.Task.{Task as CodeTask}
use Rattle.command_words.specs.declared.request.Task.TheVariants as code
use Rattle.command_words.specs.CommandLine.{Asked, Task, over, generate, has_options}

abbrev pub told : Request → Asked
told r = record { command = r.command; proof = r.proof.now; problem = r.problem.now; options = r.options; workers = r.workers }

abbrev pub told_of : Option Request → Option Asked
told_of None = None
told_of (Some r) = Some (told r)

abbrev pub told_generation : Generation → Task
told_generation g = generate g.links g.workers

abbrev pub told_task : CodeTask → Task
told_task (code.Over r) = over (told r)
told_task (code.Generate g) = told_generation g

abbrev pub told_task_of : Option CodeTask → Option Task
told_task_of t = option_map told_task t

-- so many may check a proof
abbrev pub IsNumberOfWorkers : ℕ → Type 0
IsNumberOfWorkers count = (1 ≤ count) × (count ≤ 64)

-- so many links may be made
abbrev pub IsNumberOfLinks : ℕ → Type 0
IsNumberOfLinks count = (1 ≤ count) × (count ≤ 50000)

abbrev pub MayGenerate : Generation → Type 0
MayGenerate g = IsNumberOfLinks g.links × IsNumberOfWorkers g.workers

-- what may be done
abbrev pub MayBeDone : CodeTask → Type 0
MayBeDone (code.Over r) = IsNumberOfWorkers r.workers × (has_options r.command r.options ≡ true)
MayBeDone (code.Generate g) = MayGenerate g
