-- Listing: the text of a listing, and the fault that ends it.
pub mod Listing
-- AlwaysRun: the lines that are run in a dry run too.
pub mod AlwaysRun
-- Planned: a dry run from the text of makefiles to the listing.
pub mod Planned
-- Faults: what each fault says, and so what was met before it.
pub mod Faults
-- Output: what is said and what went out, and why a listing or an answer is refused.
pub mod Output
