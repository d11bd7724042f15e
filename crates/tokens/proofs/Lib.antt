pub mod BytesProperties
pub mod ScanningProperties
pub mod QuoteProperties
