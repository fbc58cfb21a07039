use Rattle.wb_link.proofs.Witness.{one_actor_runs, three_actors_run, many_lives, without_crash, past_the_cache_happens}
use Rattle.wb_link.proofs.runs_exist.Goals as goal

pub returns : goal.returns
returns g = record { one_actor = one_actor_runs; replaced = three_actors_run; crashed = many_lives; passed = past_the_cache_happens; failed = without_crash }
