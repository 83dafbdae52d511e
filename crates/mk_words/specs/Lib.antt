-- Words: the words of a text. Counted: those of a number. Numbers: how numbers are spelled. Texts: what stands in a text. Names:
-- parts of names of files. Patterns: which words fit a `%`. Changed: words that change by one. Sorted: words in order.
pub mod Changed
pub mod Counted
pub mod Names
pub mod Numbers
pub mod Patterns
pub mod Sorted
pub mod Texts
pub mod Words
