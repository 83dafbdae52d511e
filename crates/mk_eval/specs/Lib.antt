-- Makefile: what a text gives with the files that it includes. Output: what commands write that definitions run. Static: what static
-- pattern rules are made of. Listed: rule lines with the names of files in the place of wildcards. PlainRules: printed rules that give
-- themselves. Unmade: missing files that have a rule. Judged: statements that the wide profile refuses by name. Short: names that begin
-- with `./`. Quiet: rules that are seen to give themselves.
pub mod Judged
pub mod Listed
pub mod Makefile
pub mod Output
pub mod PlainRules
pub mod Quiet
pub mod Short
pub mod Static
pub mod Unmade
