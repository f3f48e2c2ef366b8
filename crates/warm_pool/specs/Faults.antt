-- The numbers and names of the refusals of a pool: why none was made, and why a call of one was
-- refused.
use Rattle.std.specs.Prelude.{ℕ, List, codes}
use Rattle.warm_pool.specs.declared.fault.NewPoolFault.{NewPoolFault}
use Rattle.warm_pool.specs.declared.fault.NewPoolFault.TheVariants as new
use Rattle.warm_pool.specs.declared.fault.PoolFault.{PoolFault}
use Rattle.warm_pool.specs.declared.fault.PoolFault.TheVariants.{SizeDiffers, NoDevice, NoPage}
use Rattle.warm_pool.specs.declared.fault.PoolFault.TheVariants.{AllFixed, ReadFault, WriteBack}
use Rattle.warm_pool.specs.declared.fault.PoolFault.TheVariants.{FixesFull, OutOfPage, Fixed, Fault}

-- the number of each reason why a pool was not made
abbrev pub new_code_of : NewPoolFault → ℕ
new_code_of new.Memory = 1
new_code_of new.BadFrames = 2
new_code_of new.SizeDiffers = 3

-- the name of each reason why a pool was not made
abbrev pub new_name_of : NewPoolFault → List ℕ
new_name_of new.Memory = codes "Memory"
new_name_of new.BadFrames = codes "BadFrames"
new_name_of new.SizeDiffers = codes "SizeDiffers"

-- the number of each fault of a call of a pool
abbrev pub code_of : PoolFault → ℕ
code_of SizeDiffers = 3
code_of NoDevice = 4
code_of NoPage = 5
code_of AllFixed = 6
code_of ReadFault = 7
code_of WriteBack = 8
code_of FixesFull = 9
code_of OutOfPage = 10
code_of Fixed = 11
code_of Fault = 12

-- the name of each fault of a call of a pool
abbrev pub name_of : PoolFault → List ℕ
name_of SizeDiffers = codes "SizeDiffers"
name_of NoDevice = codes "NoDevice"
name_of NoPage = codes "NoPage"
name_of AllFixed = codes "AllFixed"
name_of ReadFault = codes "ReadFault"
name_of WriteBack = codes "WriteBack"
name_of FixesFull = codes "FixesFull"
name_of OutOfPage = codes "OutOfPage"
name_of Fixed = codes "Fixed"
name_of Fault = codes "Fault"
