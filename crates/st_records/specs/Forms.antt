-- The form that the records of a version have.
use Rattle.st_records.specs.declared.version.Version.{Version}
use Rattle.st_records.specs.declared.version.Version.TheVariants.{One, Two}
use Rattle.st_records.specs.declared.version.Form.{Form}
use Rattle.st_records.specs.declared.version.Form.TheVariants.{Old, Plain}

abbrev pub form_of : Version → Form
form_of One = Old
form_of Two = Plain
