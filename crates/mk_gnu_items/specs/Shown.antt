-- The crate's own values as the definitions see them.
use Rattle.mk_gnu_items.specs.declared.fault.Refusal.{Refusal}
use Rattle.mk_gnu_items.specs.declared.fault.Refused as code_refused
use Rattle.mk_gnu_items.specs.declared.fault.Refused.TheVariants.{OutOfMemory, At}

-- memory was refused, or what is told of the refusal holds
abbrev pub IsRefused : (Tells : Refusal → Type 0) → code_refused.Refused → Type 0
IsRefused Tells OutOfMemory = Unit {0}
IsRefused Tells (At why) = Tells why
