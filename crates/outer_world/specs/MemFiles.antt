-- What the store in memory holds, and its exact answers.
use Rattle.std.specs.Prelude.{◌≡◌, ℕ, nat_lt, Bool, true, false, List, length, Option, Some, None, Result, Ok, Err, if◌then◌else◌}
use Rattle.std.specs.BTreeMap.{get_by_text}
use Rattle.std.specs.Option.{option_map}
use Rattle.outer_world.specs.declared.files.FileFault.{FileFault}
use Rattle.outer_world.specs.declared.files.FileFault.TheVariants.{Failed, TooLong, Memory}
use Rattle.outer_world.specs.declared.mem_files.MemFiles.{MemFiles}

-- the bytes that a store in memory has under a name
abbrev pub held_in : MemFiles → List ℕ → Option (List ℕ)
held_in store name = option_map (λ bytes. bytes.items) (get_by_text store.files name)

-- why a read gives no bytes, where memory is there: a fault was planned, the file is not there, or it is too long
abbrev pub fault_of_read : Bool → Option (List ℕ) → ℕ → Option FileFault
fault_of_read true held limit = Some Failed
fault_of_read false None limit = Some Failed
fault_of_read false (Some bytes) limit = (if nat_lt limit (length bytes) then Some TooLong else None)

-- why a write gives no file, where memory is there: a fault was planned
abbrev pub fault_of_write : Bool → Option FileFault
fault_of_write planned = (if planned then Some Failed else None)

-- the answer has this fault, or none; want of memory may come only in place of an answer without a fault
abbrev pub HasFault : {A : Type 0} → Option FileFault → Result A FileFault → Type 0
HasFault fault (Ok value) = fault ≡ None
HasFault fault (Err Failed) = fault ≡ Some Failed
HasFault fault (Err TooLong) = fault ≡ Some TooLong
HasFault fault (Err Memory) = fault ≡ None
