-- How a refusal is printed, the word, its number and its place, and the word of each layer.
use Rattle.std.specs.Prelude.{ℕ, List, ◌++◌, codes, decimal}
use Rattle.fault.specs.declared.causes.Layer.{Layer}
use Rattle.fault.specs.declared.causes.Layer.TheVariants.{File, Marking, Carrier, Row, Bench}
use Rattle.fault.specs.declared.faults.Fault.{Fault}
use Rattle.fault.specs.Numbers.{number}

abbrev pub refusal : Fault → List ℕ
refusal v = codes "refused " ++ (decimal (number v.cause) ++ (codes " " ++ decimal v.place))

-- the word of a layer
abbrev pub layer_word : Layer → List ℕ
layer_word File = codes "file"
layer_word Marking = codes "marking"
layer_word Carrier = codes "carrier"
layer_word Row = codes "row"
layer_word Bench = codes "bench"
