-- The word that names a command.
use Rattle.std.specs.Prelude.{◌≡◌, ℕ, ◌≢◌, List, Some, None, codes, Option}
use Rattle.installer_text.specs.declared.commands.Command.{Command}

abbrev pub name_of : Command → List ℕ
name_of Command.Check = codes "C"
name_of Command.Mark = codes "M"

abbrev pub Named : List ℕ → Option Command → Type 0
Named w (Some k) = w ≡ name_of k
Named w None = (k : Command) → w ≢ name_of k
