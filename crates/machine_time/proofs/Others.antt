-- An action without an arm of its own takes no time. Assumes nothing.
use mathlib.Core.Path.{◌≡◌, refl}
use mathlib.Core.List.{[], ◌∷◌}
use denote.Enum.Declared.{tag_of}
use types.Run.{OneOf}
use Rattle.machine_actions.proofs.Variants.{no_such}
use Rattle.machine_actions.specs.declared.actions.Action.{Action}
use Rattle.machine_actions.specs.contracts.actions.Action.{the_type as action_type}
use Rattle.event_log.specs.Log.{Log}
use Rattle.event_log.specs.declared.place.Place.{Place}
use Rattle.machine_time.specs.Time.{at_once, elapsed_of}

pub takes_no_time : (a : Action) (log : Log) (p : Place) → OneOf (2 ∷ 3 ∷ 4 ∷ 5 ∷ []) (tag_of action_type a) → at_once p ≡ elapsed_of a log p
takes_no_time (Action.Wait n) log p h = no_such (2 ∷ 3 ∷ 4 ∷ 5 ∷ []) 0 tt h
takes_no_time (Action.Ewait event value) log p h = no_such (2 ∷ 3 ∷ 4 ∷ 5 ∷ []) 1 tt h
takes_no_time (Action.Flag change flag) log p h = refl
takes_no_time (Action.Load part operand) log p h = refl
takes_no_time (Action.Poke part operand) log p h = refl
takes_no_time Action.Exit log p h = refl
